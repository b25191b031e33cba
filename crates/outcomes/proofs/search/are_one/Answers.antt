use Rattle.std.proofs.Common.{◌∙◌, sym, arith}
use Rattle.outcomes.proofs.search.are_one.Goals as goal

pub returns : goal.returns
returns c =
    λ yes t u within_t within_u.
    c.loop-thread.invariant t (omega (arith, within_t, c.loop-thread-test.false))
    ∙ sym (c.loop-thread.invariant u (omega (arith, within_u, c.loop-thread-test.false)))
