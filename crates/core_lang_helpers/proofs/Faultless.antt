-- Graphs without faults.
use Rattle.std.proofs.Common.{◌≡◌, ℕ, suc, ◌+◌, ◌<◌, ◌≤◌, ◌-◌, List, [], ◌∷◌, ◌++◌, length, inl, inr, refl, sym, ap}
use Rattle.std.proofs.Common.{◌∙◌, subst, append_assoc, append-nil, arith}
use Rattle.std.specs.Prelude.{slice_get, Some, None}
use Rattle.std.specs.List.{sum_by}
use Rattle.std.proofs.lemmas.Bool.{cases_lt}
use Rattle.std.proofs.lemmas.List.Sums.{sum_by_push}
use Rattle.source.specs.declared.fault.Code.TheVariants.{LimitExceeded, RecursiveHelper}
use Rattle.core_lang_helpers.specs.declared.graph.CallSite.{CallSite}
use Rattle.core_lang_helpers.specs.Graphs.{Body, Graph}
use Rattle.core_lang_helpers.specs.Recursion.{HasCall, Calls, Reaches, calls, calls_one, LeadsTo}
use Rattle.core_lang_helpers.specs.Depths.{depth, far, IsAtMostDeep}
use Rattle.core_lang_helpers.specs.Counts.{brought_locals, brought_points}
use Rattle.core_lang_helpers.specs.Faults.{DEPTH_LIMIT, LOCAL_LIMIT, POINT_LIMIT, IsRecursive, recursive_call, too_deep}
use Rattle.core_lang_helpers.specs.Faults.{too_many_locals, too_many_points, IsGraphFault, recursive, over_limit}
use Rattle.core_lang_helpers.specs.Working.Laws.{HasNoGraphFault, CallsAreOfHelpers}
use Rattle.core_lang_helpers.proofs.Endless.{NoCircle, free_depth, free_ends}
use Rattle.core_lang_helpers.proofs.Deep.{there, deep_at, deeper_by}

-- the place of a call in a list
call_at : (cs : List CallSite) (g : ℕ) → HasCall cs g →
    (k : ℕ) × ((c : CallSite) × (slice_get cs k ≡ Some c) × (c.helper ≡ g))
call_at [] g h = absurd h
call_at (c ∷ cs) g (inl e) = (0, (c, refl, e))
call_at (c ∷ cs) g (inr h) = let r = call_at cs g h in (suc r.0, r.1)

-- the first call on the way from a helper to itself is a fault
closes : (graph : Graph) → HasNoGraphFault graph → (f g : ℕ) → Calls graph.helpers f g → LeadsTo graph.helpers g f → ⊥
closes graph none f g c leads =
    let r = call_at c.0.calls g c.2 in
    none RecursiveHelper r.1.0.start (recursive (recursive_call f r.0 c.1 r.1.1 (subst (λ (h : ℕ). LeadsTo graph.helpers h f) (sym r.1.2) leads)))

no_circle : (graph : Graph) → HasNoGraphFault graph → (f : ℕ) → Reaches graph.helpers f f → ⊥
no_circle graph none f (calls c) = closes graph none f f c (inl refl)
no_circle graph none f (calls_one {g = g} c r) = closes graph none f g c (inr r)

pub free : (graph : Graph) → HasNoGraphFault graph → (f : ℕ) → NoCircle graph.helpers f
free graph none f = λ g r circle. no_circle graph none g circle

pub shallow : (graph : Graph) → HasNoGraphFault graph → (f : ℕ) → f < length graph.helpers →
    depth graph.helpers f ≤ DEPTH_LIMIT
shallow graph none f lt = elim (cases_lt DEPTH_LIMIT (depth graph.helpers f)) [
  | inl deep ↦
      let b = there graph.helpers f lt in
      absurd (none LimitExceeded b.0.start (over_limit (too_deep f b.1 (free_ends graph.helpers f (free graph none f)) deep)))
  | inr ge ↦ ge
]

pub at_most_deep : (graph : Graph) → HasNoGraphFault graph → CallsAreOfHelpers graph.helpers → (f : ℕ) →
    f < length graph.helpers → IsAtMostDeep graph.helpers DEPTH_LIMIT f
at_most_deep graph none right f lt =
    let d : ℕ = depth graph.helpers f in
    let few : d ≤ length graph.helpers = free_depth graph.helpers (far graph.helpers) f (free graph none f) in
    let le : d ≤ 8 = shallow graph none f lt in
    let deep = deep_at graph.helpers right d (far graph.helpers) f lt (omega arith) (omega (arith, few)) in
    deeper_by graph.helpers (8 - d) d f deep 8 (omega (arith, le))

-- ---- the locals and points that the calls of a section bring

module _ (graph : Graph) (none : HasNoGraphFault graph) (s : ℕ) (b : Body) (is : slice_get graph.sections s ≡ Some b) where
  few_locals : (before behind : List CallSite) → b.calls ≡ before ++ behind →
      b.locals + sum_by (brought_locals graph.helpers) before ≤ LOCAL_LIMIT →
      b.locals + sum_by (brought_locals graph.helpers) (before ++ behind) ≤ LOCAL_LIMIT
  few_locals before [] all le = subst (λ (cs : List CallSite). b.locals + sum_by (brought_locals graph.helpers) cs ≤ LOCAL_LIMIT) (sym (append-nil before)) le
  few_locals before (c ∷ cs) all le =
      elim (cases_lt LOCAL_LIMIT (b.locals + sum_by (brought_locals graph.helpers) before + brought_locals graph.helpers c)) [
        | inl over ↦ absurd (none LimitExceeded c.start (over_limit (too_many_locals s before cs c is all le over)))
        | inr within ↦
            let e : sum_by (brought_locals graph.helpers) (before ++ c ∷ []) ≡ sum_by (brought_locals graph.helpers) before + brought_locals graph.helpers c =
            sum_by_push (brought_locals graph.helpers) before c in
            subst (λ (l : List CallSite). b.locals + sum_by (brought_locals graph.helpers) l ≤ LOCAL_LIMIT) (append_assoc before (c ∷ []) cs)
            (few_locals (before ++ c ∷ []) cs (all ∙ sym (append_assoc before (c ∷ []) cs)) (omega (arith, e, within)))
      ]

  few_points : (before behind : List CallSite) → b.calls ≡ before ++ behind →
      sum_by (brought_points graph.helpers) before ≤ POINT_LIMIT →
      sum_by (brought_points graph.helpers) (before ++ behind) ≤ POINT_LIMIT
  few_points before [] all le = subst (λ (cs : List CallSite). sum_by (brought_points graph.helpers) cs ≤ POINT_LIMIT) (sym (append-nil before)) le
  few_points before (c ∷ cs) all le =
      elim (cases_lt POINT_LIMIT (sum_by (brought_points graph.helpers) before + brought_points graph.helpers c)) [
        | inl over ↦ absurd (none LimitExceeded c.start (over_limit (too_many_points s before cs c is all le over)))
        | inr within ↦
            let e : sum_by (brought_points graph.helpers) (before ++ c ∷ []) ≡ sum_by (brought_points graph.helpers) before + brought_points graph.helpers c =
            sum_by_push (brought_points graph.helpers) before c in
            subst (λ (l : List CallSite). sum_by (brought_points graph.helpers) l ≤ POINT_LIMIT) (append_assoc before (c ∷ []) cs)
            (few_points (before ++ c ∷ []) cs (all ∙ sym (append_assoc before (c ∷ []) cs)) (omega (arith, e, within)))
      ]

  pub bring_few : (b.locals ≤ LOCAL_LIMIT →
      b.locals + sum_by (brought_locals graph.helpers) b.calls ≤ LOCAL_LIMIT) × (sum_by (brought_points graph.helpers) b.calls ≤ POINT_LIMIT)
  bring_few = (λ le. few_locals [] b.calls refl (omega (arith, le)), few_points [] b.calls refl (omega arith))

-- ---- no calls

pub no_calls : (graph : Graph) → ((f : ℕ) (b : Body) → slice_get graph.helpers f ≡ Some b → b.calls ≡ []) → (p : ℕ) →
    IsRecursive graph p → ⊥
no_calls graph none p (recursive_call f k {body = b} {c = c} is at leads) =
    let fails : None ≡ Some c = ap (λ (cs : List CallSite). slice_get cs k) (sym (none f b is)) ∙ at in absurd cc

pub no_recursion : (graph : Graph) → ((f : ℕ) (b : Body) → slice_get graph.helpers f ≡ Some b → b.calls ≡ []) →
    (p : ℕ) → IsGraphFault graph RecursiveHelper p → ⊥
no_recursion graph none p (recursive h) = no_calls graph none p h
