use Rattle.std.proofs.Common.{◌≡◌, ◌∙◌, Some, inl, inr, subst, sym, arith}
use Rattle.std.specs.Prelude.{slice_get}
use Rattle.core_lang.specs.Theory.Items.{pushed_at}
use Rattle.points.specs.Working.Points.{ArePointsOf}
use Rattle.points.proofs.program.all_points.Goals as goal

pub loop-section-preserved : goal.loop-section-preserved
loop-section-preserved c =
    let all = c.loop-section.all.items in
    let new = c.in_ok-points.field-0 in
    record {
      long = omega (arith, c.in_ok-push.ensures.len, c.loop-section.invariant.long);
      each = λ k x e.
          elim (pushed_at all new k x (subst (λ l. slice_get l k ≡ Some x) c.in_ok-push.ensures.items e)) [
            | inl old ↦ c.loop-section.invariant.each k x old
            | inr last ↦
                let here : c.loop-section.section ≡ k = sym (last.0 ∙ c.loop-section.invariant.long) in
                subst (λ y. ArePointsOf c.args.program.now k y) last.1
                (subst (λ i. ArePointsOf c.args.program.now i new) here c.in_ok-points.ensures)
          ];
    }

pub returns : goal.returns
returns c = record {
  sections = omega (arith, c.loop-section.invariant.long, c.loop-section.auto.section-end, c.loop-section-test.false, c.len-section-end.ensures, c.args.program.now.sections.ok.0);
  each = c.loop-section.invariant.each;
}
