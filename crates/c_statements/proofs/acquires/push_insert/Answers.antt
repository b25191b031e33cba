use Rattle.std.proofs.Common.{◌-◌, string_bytes}
use Rattle.c_statements.specs.Acquires.{exchange_text}
use Rattle.c_statements.specs.Theory.Loops.{upward_moved}
use Rattle.c_statements.proofs.acquires.push_insert.Goals as goal

pub loop-left-preserved : goal.loop-left-preserved
loop-left-preserved c =
    upward_moved exchange_text c.loop-left.left (c.args.count - 1) (string_bytes c.loop-left.out) (string_bytes c.push_exchange.new.out) _
    c.loop-left-test.true c.in_ok-push_exchange.ensures c.loop-left.invariant
