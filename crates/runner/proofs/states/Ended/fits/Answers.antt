use Rattle.std.specs.Prelude.{◌≡◌, ◌↔◌, List, IsTrue, Option, Some, unwrap_or}
use Rattle.std.proofs.Common.{arith, refl, sym, ap, ◌∙◌, subst}
use Rattle.core_lang.specs.declared.value.Outcome.{Outcome}
use Rattle.moved_cells.specs.Working.Grants.{GrantOf}
use Rattle.history.specs.Commits.{Commit}
use Rattle.lock_manager.specs.Working.Calls.{CanRelease}
use Rattle.runner.specs.declared.body.SectionFrame.{SectionFrame}
use Rattle.runner.specs.Working.Opens.{OpenOf, CanBeReleased, entry_of}
use Rattle.runner.specs.Working.Ties.{ended_in}
use Rattle.runner.proofs.Endings.{can_end, own_release}
use Rattle.runner.proofs.states.Ended.fits.Goals as goal

pub returns-then-body-lt18446744073709551615 : goal.returns-then-body-lt18446744073709551615
returns-then-body-lt18446744073709551615 c =
    let x = c.self.inside in
    let b = x.body.value in
    let m = c.args.manager.now in
    let o = ended_in x.program.now x.ticket b in
    let told = c.entry.result.outcome in
    let over : Some b.outcome ≡ Some told = ap (λ (s : OpenOf). s.activation.outcome) c.self.view_is ∙ c.entry.ensures.over in
    let entry : c.entry.result ≡ entry_of o b.outcome =
    c.entry.ensures.is
    ∙ ap (λ (s : OpenOf). entry_of s told) (sym c.self.view_is)
    ∙ ap (entry_of o) (ap (λ (y : Option Outcome). unwrap_or y told) (sym over)) in
    let grants : c.deref.result.now ≡ b.grants.items = c.deref.ensures.value ∙ ap (λ (b : SectionFrame). b.grants.items) c.deref-body.ensures in
    let step = ap (λ (b : SectionFrame). b.step) c.deref-body.ensures in
    let told : IsTrue c.fits.result ↔ CanRelease m x.ticket b.grants.items (entry_of o b.outcome) =
    subst (λ (e : Commit). IsTrue c.fits.result ↔ CanRelease m x.ticket b.grants.items e) entry
    (subst (λ (gs : List GrantOf). IsTrue c.fits.result ↔ CanRelease m x.ticket gs c.entry.result) grants c.fits.ensures) in
    subst (λ (s : OpenOf). IsTrue c.fits.result ↔ CanBeReleased m s) c.self.view_is (
      (λ t. record {
        back = can_end m o x.ticket b.machine b.grants.items b.outcome c.self.invariant refl (told.0 t);
        step = omega (arith, step, c.if-body-lt18446744073709551615.true);
      }),
      (λ can. told.1 (own_release m o x.ticket b.machine b.grants.items b.outcome c.self.invariant refl can.back)),
    )
