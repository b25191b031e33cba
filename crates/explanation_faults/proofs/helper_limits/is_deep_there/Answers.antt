use Rattle.std.proofs.Common.{◌≡◌, ◌∙◌, true, false, List, Option, refl, sym, ap, subst, below_more}
use Rattle.std.proofs.lemmas.Option.{same_Some}
use Rattle.core_lang_helpers.specs.declared.graph.CallerBody as code
use Rattle.core_lang_helpers.specs.Graphs.{Body, bodies_of, body_of}
use Rattle.core_lang_helpers.specs.Working.Tables.{extent_at, is_deep_by, IsExtents}
use Rattle.core_lang_helpers.specs.declared.extents.Extent.{Extent}
use Rattle.explanation_faults.proofs.HelperLimits.{deep_if, deep_so}
use Rattle.explanation_names.specs.Theory.Viewed.{viewed_at}
use Rattle.explanation_faults.proofs.helper_limits.is_deep_there.Goals as goal
use Rattle.explanation_faults.proofs.helper_limits.is_deep_there.Goals.{else-helper-at-via-then-helper-at+else-is_too_deep}
use Rattle.explanation_faults.proofs.helper_limits.is_deep_there.Goals.{else-helper-at-via-else-helper-at}

pub returns-then-is_too_deep : goal.returns-then-is_too_deep
returns-then-is_too_deep c =
    let hs = c.args.helpers.now in
    let k = c.loop-number.number in
    let x = c.index-helpers-number.result in
    let here = viewed_at body_of hs hs k x refl c.index-helpers-number.is c.loop-number-test.true in
    let table = c.in_ok-extents.extents.table.items in
    let known : IsExtents (bodies_of hs) table =
    subst (λ (bs : List code.CallerBody). IsExtents (bodies_of bs) table) c.in_ok-callers.ensures.0 c.in_ok-extents.ensures in
    let so = deep_if (bodies_of hs) table k known (
    ap (λ (t : List (Option Extent)). is_deep_by (extent_at t k)) (sym c.deref.ensures.value) ∙ sym c.is_too_deep.ensures ∙ c.if-is_too_deep.true) in
    (λ is. record { number = k; body = body_of x; listed = here; starts = c.if-helper-at.true; ends = so.0; deep = so.1 }, λ d. refl)

pub loop-number-preserved : goal.loop-number-preserved
loop-number-preserved c =
    let hs = c.args.helpers.now in
    let k = c.loop-number.number in
    let x = c.index-helpers-number.result in
    let here = viewed_at body_of hs hs k x refl c.index-helpers-number.is c.loop-number-test.true in
    let table = c.in_ok-extents.extents.table.items in
    let known : IsExtents (bodies_of hs) table =
    subst (λ (bs : List code.CallerBody). IsExtents (bodies_of bs) table) c.in_ok-callers.ensures.0 c.in_ok-extents.ensures in
    elim c.else-helper-at.branch [
      | else-helper-at-via-then-helper-at+else-is_too_deep w ↦
          below_more _ _ c.loop-number.invariant
          (λ b at starts ends more.
          let e : false ≡ true =
          sym w.if-is_too_deep.false ∙ w.is_too_deep.ensures
          ∙ ap (λ (t : List (Option Extent)). is_deep_by (extent_at t k)) w.deref.ensures.value
          ∙ deep_so (bodies_of hs) table k known ends more in
          absurd cc)
      | else-helper-at-via-else-helper-at w ↦
          below_more _ _ c.loop-number.invariant
          (λ b at starts ends more.
          let same : b ≡ body_of x = same_Some b (body_of x) (sym at ∙ here) in
          absurd (w.if-helper-at.false (ap (λ (y : Body). y.start) (sym same) ∙ starts)))
    ]
