use Rattle.std.proofs.Common.{sym, ◌∙◌}
use Rattle.runner.proofs.Falling.{stays}
use Rattle.runner.proofs.pending.place_for.Goals as goal

pub returns-then-eq-clause-stays : goal.returns-then-eq-clause-stays
returns-then-eq-clause-stays c =
    stays c.args.ranks.now c.args.lock c.args.falling.now c.loop-place.place (record { class = 0; object = 0 })
    c.loop-place-test.true c.loop-place.invariant.within (sym c.eq.ensures ∙ c.if-eq.true) c.loop-place.invariant.goes
