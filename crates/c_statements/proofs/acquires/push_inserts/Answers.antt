use Rattle.std.proofs.Common.{string_bytes}
use Rattle.c_statements.specs.Acquires.{insert_text}
use Rattle.c_statements.specs.Theory.Loops.{downward_moved}
use Rattle.c_statements.proofs.acquires.push_inserts.Goals as goal

pub loop-place-preserved : goal.loop-place-preserved
loop-place-preserved c =
    downward_moved (insert_text c.args.count) c.loop-place.place (string_bytes c.loop-place.out)
    (string_bytes c.push_insert.new.out) _ c.loop-place-test.true c.in_ok-push_insert.ensures c.loop-place.invariant
