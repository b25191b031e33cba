use Rattle.std.proofs.Common.{string_bytes}
use Rattle.c_statements.specs.Acquires.{lock_text}
use Rattle.c_statements.specs.Theory.Loops.{upward_moved}
use Rattle.c_statements.proofs.acquires.push_locks.Goals as goal

pub loop-place-preserved : goal.loop-place-preserved
loop-place-preserved c =
    upward_moved lock_text c.loop-place.place c.args.count (string_bytes c.loop-place.out) (string_bytes c.push_lock.new.out) _
    c.loop-place-test.true c.in_ok-push_lock.ensures c.loop-place.invariant
