use Rattle.std.proofs.Common.{◌≡◌, ◌∙◌, true, false, map, refl, sym, ap, below_more, arith}
use Rattle.std.proofs.lemmas.Option.{same_Some}
use Rattle.resolution.specs.Scopes.{declared}
use Rattle.syntax.specs.Trees.{Decl}
use Rattle.syntax.specs.Views.{decl_of}
use Rattle.explanation_faults.specs.Working.AmountsFound.{begins}
use Rattle.explanation_faults.proofs.AmountsPassed.{is_last, ends_there}
use Rattle.explanation_names.specs.Theory.Viewed.{viewed_at, within_view}
use Rattle.explanation_faults.proofs.amounts_passed.are_calls_past.Goals as goal
use Rattle.explanation_faults.proofs.amounts_passed.are_calls_past.Goals.{then-begins_there+in_ok-ends_few_calls+else-branch}
use Rattle.explanation_faults.proofs.amounts_passed.are_calls_past.Goals.{else-begins_there}

pub returns-then-branch : goal.returns-then-branch
returns-then-branch c =
    let ds = c.args.decls.now in
    let k = c.loop-place.place in
    let d = c.index-decls-place.result in
    let here = viewed_at decl_of ds ds k d refl c.index-decls-place.is c.loop-place-test.true in (
      λ _. is_last (map decl_of ds) c.args.at k (decl_of d) here (sym c.begins_there.ensures ∙ c.if-begins_there.true)
          (sym c.in_ok-ends_few_calls.ensures ∙ c.if-branch.true),
      λ _. refl,
    )

pub loop-place-preserved : goal.loop-place-preserved
loop-place-preserved c =
    let ds = c.args.decls.now in
    let k = c.loop-place.place in
    let x = c.index-decls-place.result in
    let here = viewed_at decl_of ds ds k x refl c.index-decls-place.is c.loop-place-test.true in
    below_more _ _ c.loop-place.invariant
    (λ d at starts ends.
    let same : d ≡ decl_of x = same_Some d (decl_of x) (sym at ∙ here) in
    elim c.if-begins_there.branch [
      | then-begins_there+in_ok-ends_few_calls+else-branch w ↦
          let e : false ≡ true = sym w.if-branch.false ∙ w.in_ok-ends_few_calls.ensures ∙ ends in absurd cc
      | else-begins_there w ↦
          let e : false ≡ true =
          sym w.if-begins_there.false ∙ c.begins_there.ensures ∙ ap (λ (y : Decl). begins c.args.at (declared y)) (sym same) ∙ starts in
          absurd cc
    ])

pub returns : goal.returns
returns c =
    let ds = c.args.decls.now in (
      λ e. absurd cc,
      λ p.
          let is = ends_there (map decl_of ds) c.args.at p in
          let within = within_view decl_of ds ds p.place p.decl refl p.listed in
          absurd (c.loop-place.invariant p.place (omega (arith, within, c.loop-place-test.false)) p.decl p.listed is.0 is.1),
    )
