use Rattle.std.specs.Prelude.{◌≡◌, ◌↔◌, IsTrue}
use Rattle.std.proofs.Common.{arith, refl, sym, ap, ◌∙◌, subst}
use Rattle.code.specs.Memory.{IsPartOf}
use Rattle.lock_manager.specs.Working.Calls.{Knows}
use Rattle.runner.specs.declared.body.SectionFrame.{SectionFrame}
use Rattle.runner.specs.Working.Opens.{OpenOf, CanBeReleased, ticket_of}
use Rattle.runner.specs.Working.Ties.{ended_in}
use Rattle.runner.specs.Theory.Releasing.{can_end}
use Rattle.runner.proofs.states.Ended.fits_as_part.Goals as goal

pub returns-then-body-lt18446744073709551615 : goal.returns-then-body-lt18446744073709551615
returns-then-body-lt18446744073709551615 c =
    let x = c.self.inside in
    let b = x.body.value in
    let m = c.args.manager.now in
    let o = ended_in x.program.now x.ticket b in
    let step = ap (λ (b : SectionFrame). b.step) c.deref-body.ensures in
    let layout : m.layout ≡ o.plan.layout = c.requires.layout ∙ ap (λ (s : OpenOf). s.plan.layout) (sym c.self.view_is) in
    let part : IsPartOf m.values o.activation.machine.memory =
    subst (λ (s : OpenOf). IsPartOf m.values s.activation.machine.memory) (sym c.self.view_is) c.requires.part in
    subst (λ (s : OpenOf). IsTrue c.knows.result ↔ CanBeReleased m s) c.self.view_is (
      (λ t. record {
        back = can_end m o c.slots_are_cells.ensures.read c.keeps_its_rules.ensures.rules_kept layout
            (subst (Knows m) c.self.invariant.ticket_is (c.knows.ensures.0 t)) c.self.invariant.is_open.in_order.well part refl;
        step = omega (arith, step, c.if-body-lt18446744073709551615.true);
      }),
      (λ can. c.knows.ensures.1 (subst (Knows m) (sym c.self.invariant.ticket_is) (can.back b.grants.items b.outcome c.self.invariant.its refl).0)),
    )
