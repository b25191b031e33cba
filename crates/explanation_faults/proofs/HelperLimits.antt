-- Limits on what helpers call.
use Rattle.std.proofs.Common.{◌≡◌, ◌∙◌, ℕ, ◌<◌, List, ◌∷◌, Option, Some, None, true, false, inl, inr, refl, sym, ap, subst, arith, lt-ltb}
use Rattle.std.specs.Prelude.{◌==◌, min, nat_lt}
use Rattle.std.proofs.lemmas.Bool.{ltb-true, both_ways, or_right, and_from, eq-eqb}
use Rattle.core_lang_helpers.specs.Depths.{depth, is_endless}
use Rattle.core_lang_helpers.specs.Working.FaultLists.{graph_faults}
use Rattle.core_lang_helpers.specs.Faults.{DEPTH_LIMIT, IsGraphFault, over_limit, IsOverLimit, too_deep, too_many_locals}
use Rattle.core_lang_helpers.specs.Faults.{too_many_points}
use Rattle.core_lang_helpers.specs.Graphs.{Body, Graph}
use Rattle.core_lang_helpers.specs.Working.Tables.{IsExtents, IsExtentOf, extent_at, is_deep_by}
use Rattle.core_lang_helpers.specs.declared.extents.Extent.{Extent}
use Rattle.core_lang_helpers.specs.Working.Laws.{FaultsAreListed, ListedAreFaults}
use Rattle.resolution.specs.CallGraphs.{tree_graph}
use Rattle.source.specs.Theory.Leasts.{least_in, neither_before, none_before, some_least}
use Rattle.source.specs.Mistakes.{code_number, goes_before, least_of}
use Rattle.source.specs.declared.fault.Code.TheVariants.{LimitExceeded, RecursiveHelper}
use Rattle.source.specs.declared.mistake.Mistake.{Mistake}
use Rattle.syntax.specs.Trees.{Decl}
use Rattle.explanation_faults.specs.HelperLimits.{IsFirstOfHelpers, IsOfDepth}
use Rattle.explanation_faults.specs.Working.HelpersFound.{IsDeepThere, IsFirstThere}

abbrev IsDeepOver : Graph → ℕ → Type 0
IsDeepOver graph at = (o : IsOverLimit graph at) × IsOfDepth o

deep_at : (graph : Graph) (p at : ℕ) → p ≡ at → IsDeepOver graph p → IsDeepOver graph at
deep_at graph p at same deep = subst (IsDeepOver graph) same deep

pub deep_over : (graph : Graph) (at : ℕ) → IsDeepThere graph.helpers at → IsDeepOver graph at
deep_over graph at d = deep_at graph d.body.start at d.starts (too_deep d.number d.listed d.ends d.deep, tt)

pub deep_there : (graph : Graph) (at : ℕ) (o : IsOverLimit graph at) → IsOfDepth o → IsDeepThere graph.helpers at
deep_there graph at (too_deep f {body = body} is ends deep) of_depth =
    record { number = f; body = body; listed = is; starts = refl; ends = ends; deep = deep }
deep_there graph at (too_many_locals s before behind c is parts few many) of_depth = absurd of_depth
deep_there graph at (too_many_points s before behind c is parts few many) of_depth = absurd of_depth

-- ---- depths, by their table

module _ (helpers : List Body) (table : List (Option Extent)) (k : ℕ) (is : IsExtents helpers table) where
  deep_of : (o : Option Extent) → extent_at table k ≡ o → is_deep_by o ≡ true →
      (is_endless helpers k ≡ false) × (DEPTH_LIMIT < depth helpers k)
  deep_of (Some e) at deep =
      let right : IsExtentOf helpers k e = is.ends k e at in
      let found : e.depth ≡ min (depth helpers k) 9 = ap (λ (x : Extent). x.depth) right.1 in
      let more = ltb-true DEPTH_LIMIT e.depth deep in
      (right.0, omega (arith, found, more))
  deep_of None at deep = absurd cc

  of_deep : (o : Option Extent) → extent_at table k ≡ o → is_endless helpers k ≡ false → DEPTH_LIMIT < depth helpers k →
      is_deep_by o ≡ true
  of_deep (Some e) at ends more =
      let right : IsExtentOf helpers k e = is.ends k e at in
      let found : e.depth ≡ min (depth helpers k) 9 = ap (λ (x : Extent). x.depth) right.1 in
      lt-ltb DEPTH_LIMIT e.depth (omega (arith, found, more))
  of_deep None at ends more = absurd (both_ways (is_endless helpers k) ends (is.endless k at))

  pub deep_if : is_deep_by (extent_at table k) ≡ true → (is_endless helpers k ≡ false) × (DEPTH_LIMIT < depth helpers k)
  deep_if deep = deep_of (extent_at table k) refl deep

  pub deep_so : is_endless helpers k ≡ false → DEPTH_LIMIT < depth helpers k → is_deep_by (extent_at table k) ≡ true
  deep_so ends more = of_deep (extent_at table k) refl ends more

-- ---- the first fault

over_of : (graph : Graph) (at : ℕ) → IsGraphFault graph LimitExceeded at → IsOverLimit graph at
over_of graph at (over_limit is) = is

module _ (listed : ListedAreFaults) (all : FaultsAreListed) (decls : List Decl) (at : ℕ) where
  abbrev graph : Graph
  graph = tree_graph decls

  abbrev wanted : Mistake
  wanted = record { code = LimitExceeded; start = at }

  -- a fault after the one that is looked for
  abbrev behind : Mistake
  behind = record { code = RecursiveHelper; start = at }

  is_behind : goes_before wanted behind ≡ true
  is_behind = or_right (nat_lt at at) _ (and_from (at == at) (nat_lt 15 20) (eq-eqb at at refl) refl)

  pub first_over : IsFirstThere decls at → IsOverLimit graph at
  first_over is = elim (least_in wanted (behind ∷ graph_faults graph) is) [
    | inl same ↦ let codes : 15 ≡ 20 = ap (λ (m : Mistake). code_number m.code) same in absurd (omega (arith, codes))
    | inr among ↦ over_of graph at (listed graph wanted among)
  ]

  by_least : (o : Option Mistake) → least_of (Some behind) (graph_faults graph) ≡ o → IsFirstOfHelpers decls at →
      IsFirstThere decls at
  by_least None is first = absurd (some_least behind (graph_faults graph) is)
  by_least (Some n) is first =
      let early = none_before n wanted (behind ∷ graph_faults graph) (inr (all graph LimitExceeded at (over_limit first.over))) is in
      elim (least_in n (behind ∷ graph_faults graph) is) [
        | inl same ↦ absurd (both_ways (goes_before wanted behind) (ap (goes_before wanted) (sym same) ∙ early) is_behind)
        | inr there ↦ is ∙ ap Some (neither_before n wanted (first.first n.code n.start (listed graph n there)) early)
      ]

  pub first_there : IsFirstOfHelpers decls at → IsFirstThere decls at
  first_there first = by_least (least_of (Some behind) (graph_faults graph)) refl first
