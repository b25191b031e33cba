use Rattle.std.proofs.Common.{◌<◌, ◌∷◌, [], length, length-append, refl, sym, ap, subst, arith}
use Rattle.std.specs.Prelude.{◌≡◌, slice_get, Some}
use Rattle.std.proofs.lemmas.Option.{slice_get_read}
use Rattle.report_check.proofs.Listed.{AreListed, one_listed}
use Rattle.report_check.proofs.section_points.points_of_sections.Goals as goal

pub loop-section-preserved : goal.loop-section-preserved
loop-section-preserved c =
    let program = c.args.program.now in
    let sections = program.sections.items in
    let each = c.loop-section.each.items in
    let i = c.loop-section.invariant in
    let section = c.index.result.now in
    let list = c.in_ok-points.points in
    let lt : c.loop-section.section < length sections = omega (arith, c.loop-section-test.true, c.len-section-end.ensures, program.sections.ok.0) in
    let there = slice_get_read sections (length sections) c.loop-section.section section refl lt c.index.ensures in
    record {
      long = omega (arith, ap length c.in_ok-push.ensures.items, length-append each (list ∷ []), i.long);
      listed = subst (AreListed program) (sym c.in_ok-push.ensures.items)
          (one_listed program each list section i.listed (subst (λ k. slice_get sections k ≡ Some section) (sym i.long) there) c.in_ok-points.ensures);
    }

pub returns : goal.returns
returns c =
    let i = c.loop-section.invariant in (
      omega (arith, i.long, c.loop-section-test.false, c.loop-section.auto.section-end, c.len-section-end.ensures, c.args.program.now.sections.ok.0),
      i.listed,
    )
