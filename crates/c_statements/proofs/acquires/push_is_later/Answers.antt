use Rattle.std.proofs.Common.{ℕ, string_bytes}
use Rattle.c_statements.specs.Acquires.{asked, or_equals_text}
use Rattle.c_statements.specs.Theory.Loops.{upward_moved}
use Rattle.c_statements.proofs.acquires.push_is_later.Goals as goal

pub loop-later-preserved : goal.loop-later-preserved
loop-later-preserved c =
    upward_moved (λ (i : ℕ). or_equals_text c.args.place (asked i)) c.loop-later.later c.args.count (string_bytes c.loop-later.out)
    (string_bytes c.push_or_equals.new.out) _ c.loop-later-test.true c.in_ok-push_or_equals.ensures c.loop-later.invariant
