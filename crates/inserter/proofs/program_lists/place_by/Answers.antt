use Rattle.std.proofs.Common.{◌≡◌, ◌<◌, length, map, Some, inl, inr, arith, refl, subst, sym, ◌∙◌}
use Rattle.std.specs.Prelude.{slice_get}
use Rattle.std.proofs.lemmas.List.{length-map}
use Rattle.std.proofs.lemmas.Option.{slice_get_read}
use Rattle.inserter.specs.Placement.{AreLists, lists_of}
use Rattle.inserter.proofs.DueLists.{more_at}
use Rattle.inserter.proofs.program_lists.place_by.Goals as goal

pub returns : goal.returns
returns c =
    let n = c.args.program.now.sections.ok.0 in
    record {
      long = length-map c.loop-section.sections.items lists_of
          ∙ omega (arith, c.loop-section.invariant.long, c.loop-section.auto.section-end, c.loop-section-test.false, c.len-section-end.ensures, n);
      each = c.loop-section.invariant.each;
    }

pub loop-section-preserved : goal.loop-section-preserved
loop-section-preserved c =
    let program = c.args.program.now in
    let all = c.args.points.now in
    let i = c.loop-section.section in
    let x = c.index-points-section.result in
    let lt : i < length all = omega (arith, c.loop-section-test.true, c.len-section-end.ensures, c.requires.sections, program.sections.ok.0) in
    let are = c.requires.each i x (slice_get_read all (length all) i x refl lt c.index-points-section.is) in
    let old = c.loop-section.sections.items in
    let new = c.in_ok-lists_before.field-0 in
    record {
      long = omega (arith, c.in_ok-push.ensures.len, c.loop-section.invariant.long);
      each = λ k section ls at_k e.
          elim (more_at lists_of old new k ls (subst (λ l. slice_get (map lists_of l) k ≡ Some ls) c.in_ok-push.ensures.items e)) [
            | inl before ↦ c.loop-section.invariant.each k section ls at_k before
            | inr last ↦
                let here : k ≡ i = last.0 ∙ c.loop-section.invariant.long in
                let at_i = subst (λ n. slice_get program.sections.items n ≡ Some section) here at_k in
                subst (λ l. AreLists program section c.args.ranks.now l) (sym last.1)
                (c.in_ok-lists_before.ensures program section (are section at_i))
          ];
    }
