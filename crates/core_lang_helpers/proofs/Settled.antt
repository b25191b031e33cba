-- Helpers as the code settles them.
use Rattle.std.proofs.Common.{◌≡◌, ◌≢◌, ℕ, zero, suc, ◌+◌, ◌<◌, ◌≤◌, max, Bool, true, false, List, [], ◌∷◌, ◌++◌, ◌⊎◌, length}
use Rattle.std.proofs.Common.{get_or, set, take, replicate, inl, inr, refl, sym, ap, ◌∙◌, subst, add-one, Vec, Global, arith}
use Rattle.std.specs.Prelude.{slice_get, Option, Some, None, is_some}
use Rattle.std.specs.List.{sum_by}
use Rattle.std.proofs.lemmas.Bool.{cases_lt, cases_eq, cases_Bool, both_ways, lt-ltb, le-ltb, ltb-false}
use Rattle.std.proofs.lemmas.List.{length-set, length-replicate, length_push, get_or-set_same, get_or-set_other, get_or-replicate}
use Rattle.std.proofs.lemmas.List.{get_or_past, take_all, take_more}
use Rattle.std.proofs.lemmas.List.Sums.{sum_by-cons, sum_by-set}
use Rattle.std.proofs.lemmas.Option.{same_Some, none-some, slice_get_within}
use Rattle.core_lang_helpers.specs.declared.graph.CallSite.{CallSite}
use Rattle.core_lang_helpers.specs.declared.extents.Extent.{Extent}
use Rattle.core_lang_helpers.specs.Graphs.{Body}
use Rattle.core_lang_helpers.specs.Recursion.{HasCall, Calls, Reaches, calls, calls_one}
use Rattle.core_lang_helpers.specs.Depths.{of_body, deepest_of, depth_within, far, depth, is_endless, CallsOnly}
use Rattle.core_lang_helpers.specs.Counts.{one_for, hidden, locals_within, points_within}
use Rattle.core_lang_helpers.specs.Working.Tables.{Has, row_at, IsCallersTo, no_extent, extent_at, extent_seen, seen, extent_within}
use Rattle.core_lang_helpers.specs.Working.Tables.{extent_by, IsSettled, IsOpenFrom, open_one, unsettled, IsExtentOf, IsExtents}
use Rattle.core_lang_helpers.specs.Working.Knowledge.{Table, AreSettling, Settle, PendsBy}
use Rattle.core_lang_helpers.proofs.Closing.{first_there}
use Rattle.core_lang_helpers.proofs.Endless.{called_deeper, circle_endless, endless_circle, none_deep}
use Rattle.core_lang_helpers.proofs.Deep.{only_like}
use Rattle.core_lang_helpers.proofs.Extending.{AllCalls, all_calls, IsRight, one_further, none_within}
use Rattle.core_lang_helpers.proofs.Having.{has_push, has_last, has_either, call_at, only_at, only_push}

-- ---- calls that come to an end come to the same, however far they are followed

shallow : (deep : ℕ → ℕ) (cs : List CallSite) (m : ℕ) → deepest_of deep cs ≤ m → CallsOnly (λ h. deep h ≤ m) cs
shallow deep [] m le = tt
shallow deep (c ∷ cs) m le = (omega (arith, le), shallow deep cs m (omega (arith, le)))

-- the extent of a helper is the same if calls are followed one level further
abbrev pub IsStable : List Body → ℕ → ℕ → Type 0
IsStable helpers n h =
    (depth_within n helpers h ≡ depth_within (suc n) helpers h) × (locals_within n helpers h ≡ locals_within (suc n) helpers h)
    × (points_within n helpers h ≡ points_within (suc n) helpers h)

same_deepest : (f g : ℕ → ℕ) (cs : List CallSite) → AllCalls (λ (c : CallSite). f c.helper ≡ g c.helper) cs →
    deepest_of f cs ≡ deepest_of g cs
same_deepest f g [] same = refl
same_deepest f g (c ∷ cs) same =
    ap (λ (n : ℕ). max n (deepest_of f cs)) same.0 ∙ ap (λ (n : ℕ). max (g c.helper) n) (same_deepest f g cs same.1)

same_sum : (f g : CallSite → ℕ) (cs : List CallSite) → AllCalls (λ (c : CallSite). f c ≡ g c) cs → sum_by f cs ≡ sum_by g cs
same_sum f g [] same = refl
same_sum f g (c ∷ cs) same =
    sum_by-cons f c cs ∙ ap (λ (n : ℕ). n + sum_by f cs) same.0 ∙ ap (λ (n : ℕ). g c + n) (same_sum f g cs same.1) ∙ sym (sum_by-cons g c cs)

module _ (helpers : List Body) (n : ℕ) where
  abbrev depth_step : ℕ → Body → ℕ
  depth_step m b = 1 + deepest_of (depth_within m helpers) b.calls

  abbrev local_part : ℕ → CallSite → ℕ
  local_part m c = locals_within m helpers c.helper + hidden helpers c

  abbrev local_step : ℕ → Body → ℕ
  local_step m b = b.locals + sum_by (λ (c : CallSite). locals_within m helpers c.helper + hidden helpers c) b.calls

  abbrev point_part : ℕ → CallSite → ℕ
  point_part m c = points_within m helpers c.helper

  abbrev point_step : ℕ → Body → ℕ
  point_step m b = b.parameters + b.points + sum_by (λ (c : CallSite). points_within m helpers c.helper) b.calls + one_for b.has_result

  stable_body : (h : ℕ) (b : Body) → slice_get helpers h ≡ Some b → CallsOnly (IsStable helpers n) b.calls →
      IsStable helpers (suc n) h
  stable_body h b is only = (
    ap (λ (o : Option Body). of_body o (depth_step n)) is
        ∙ ap (λ (k : ℕ). 1 + k) (same_deepest (depth_within n helpers) (depth_within (suc n) helpers) b.calls (all_calls (IsStable helpers n) _ (λ c s. s.0) b.calls only))
        ∙ sym (ap (λ (o : Option Body). of_body o (depth_step (suc n))) is),
    ap (λ (o : Option Body). of_body o (local_step n)) is
        ∙ ap (λ (k : ℕ). b.locals + k) (same_sum (local_part n) (local_part (suc n)) b.calls
        (all_calls (IsStable helpers n) _ (λ c s. ap (λ (k : ℕ). k + hidden helpers c) s.1) b.calls only))
        ∙ sym (ap (λ (o : Option Body). of_body o (local_step (suc n))) is),
    ap (λ (o : Option Body). of_body o (point_step n)) is
        ∙ ap (λ (k : ℕ). b.parameters + b.points + k + one_for b.has_result)
        (same_sum (point_part n) (point_part (suc n)) b.calls (all_calls (IsStable helpers n) _ (λ c s. s.2) b.calls only))
        ∙ sym (ap (λ (o : Option Body). of_body o (point_step (suc n))) is),
  )

stable_none : (helpers : List Body) (n h : ℕ) → slice_get helpers h ≡ None → IsStable helpers n h
stable_none helpers zero h is = (
  sym (ap (λ (o : Option Body). of_body o (depth_step helpers zero zero)) is),
  sym (ap (λ (o : Option Body). of_body o (local_step helpers zero zero)) is),
  sym (ap (λ (o : Option Body). of_body o (point_step helpers zero zero)) is),
)
stable_none helpers (suc n) h is = (
  ap (λ (o : Option Body). of_body o (depth_step helpers n n)) is ∙ sym (ap (λ (o : Option Body). of_body o (depth_step helpers n (suc n))) is),
  ap (λ (o : Option Body). of_body o (local_step helpers n n)) is ∙ sym (ap (λ (o : Option Body). of_body o (local_step helpers n (suc n))) is),
  ap (λ (o : Option Body). of_body o (point_step helpers n n)) is ∙ sym (ap (λ (o : Option Body). of_body o (point_step helpers n (suc n))) is),
)

deep_some : (helpers : List Body) (n h : ℕ) (b : Body) → slice_get helpers h ≡ Some b →
    depth_within (suc n) helpers h ≡ 1 + deepest_of (depth_within n helpers) b.calls
deep_some helpers n h b is = ap (λ (o : Option Body). of_body o (depth_step helpers n n)) is

stable_at : (helpers : List Body) (n h : ℕ) (o : Option Body) → slice_get helpers h ≡ o → depth_within (suc n) helpers h ≤ n →
    IsStable helpers n h
stable_at helpers n h None is le = stable_none helpers n h is
stable_at helpers zero h (Some b) is le = absurd (omega (arith, deep_some helpers zero h b is, le))
stable_at helpers (suc n) h (Some b) is le =
    let deep : depth_within (suc (suc n)) helpers h ≡ 1 + deepest_of (depth_within (suc n) helpers) b.calls = deep_some helpers (suc n) h b is in
    let below : deepest_of (depth_within (suc n) helpers) b.calls ≤ n = omega (arith, deep, le) in
    stable_body helpers n h b is
    (only_like (λ g. depth_within (suc n) helpers g ≤ n) (IsStable helpers n) (λ g small. stable_at helpers n g (slice_get helpers g) refl small) b.calls
    (shallow (depth_within (suc n) helpers) b.calls n below))

-- of a helper that reaches no recursion
stable_end : (helpers : List Body) (h : ℕ) → is_endless helpers h ≡ false → IsStable helpers (length helpers) h
stable_end helpers h ends =
    let le : depth helpers h ≤ length helpers = ltb-false (length helpers) (depth helpers h) ends in
    stable_at helpers (length helpers) h (slice_get helpers h) refl (subst (λ (n : ℕ). depth_within n helpers h ≤ length helpers) (add-one (length helpers)) le)

extent_stable : (helpers : List Body) (n h : ℕ) → IsStable helpers n h → extent_within (suc n) helpers h ≡ extent_within n helpers h
extent_stable helpers n h s = cc

-- the extent of such a helper is that with calls followed as deep as the number of helpers
right_end : (helpers : List Body) (h : ℕ) (e : Extent) → IsExtentOf helpers h e → e ≡ extent_within (length helpers) helpers h
right_end helpers h e is =
    is.1 ∙ ap (λ (n : ℕ). extent_within n helpers h) (add-one (length helpers)) ∙ extent_stable helpers (length helpers) h (stable_end helpers h is.0)

-- ---- a helper that calls settled ones alone

-- a helper that another one calls is called in the latter's body
called_of : (helpers : List Body) (f g : ℕ) (b : Body) → slice_get helpers f ≡ Some b → Calls helpers f g → HasCall b.calls g
called_of helpers f g b is c = subst (λ (x : Body). HasCall x.calls g) (same_Some c.0 b (sym c.1 ∙ is)) c.2

ends_by : (helpers : List Body) (f g : ℕ) (b : Body) → slice_get helpers f ≡ Some b → CallsOnly (λ h. is_endless helpers h ≡ false) b.calls →
    Reaches helpers f g → Reaches helpers g g → ⊥
ends_by helpers f g b is only (calls c) circle =
    both_ways (is_endless helpers g) (only_at (λ h. is_endless helpers h ≡ false) b.calls g only (called_of helpers f g b is c))
    (circle_endless helpers g (g, circle, circle))
ends_by helpers f g b is only (calls_one {g = x} c r) circle =
    both_ways (is_endless helpers x) (only_at (λ h. is_endless helpers h ≡ false) b.calls x only (called_of helpers f x b is c))
    (circle_endless helpers x (g, r, circle))

ends_if : (helpers : List Body) (f : ℕ) (b : Body) → slice_get helpers f ≡ Some b → CallsOnly (λ h. is_endless helpers h ≡ false) b.calls →
    is_endless helpers f ≡ false
ends_if helpers f b is only = elim (cases_Bool (is_endless helpers f)) [
  | inl endless ↦ let r = endless_circle helpers f endless in absurd (ends_by helpers f r.0 b is only r.1 r.2)
  | inr ends ↦ ends
]

seen_is : (table : Table) (h : ℕ) (e : Extent) → extent_at table h ≡ Some e → extent_seen table h ≡ e
seen_is table h e is = ap seen is

pub settled_right : (helpers : List Body) (table : Table) (f : ℕ) (b : Body) → ((h : ℕ) (e : Extent) → extent_at table h ≡ Some e → IsExtentOf helpers h e) →
    slice_get helpers f ≡ Some b → CallsOnly (IsSettled table) b.calls → IsExtentOf helpers f (extent_by table helpers b)
settled_right helpers table f b ends is only = (
  ends_if helpers f b is (only_like (IsSettled table) (λ h. is_endless helpers h ≡ false) (λ h s. (ends h s.0 s.1).0) b.calls only),
  one_further helpers table (length helpers) f b is
      (only_like (IsSettled table) (IsRight helpers table (length helpers)) (λ h s. seen_is table h s.0 s.1 ∙ right_end helpers h s.0 (ends h s.0 s.1)) b.calls only)
      ∙ ap (λ (n : ℕ). extent_within n helpers f) (sym (add-one (length helpers))),
)

-- ---- one helper

pub settle_none : (table : Table) (ready : List ℕ) → Settle table table ready ready
settle_none table ready = record { kept = λ h e is. is; from = λ h e is. inl is; still = λ h has. has; count = refl }

pub settle_both : (a b c : Table) (x y z : List ℕ) → Settle a b x y → Settle b c y z → Settle a c x z
settle_both a b c x y z p q = record {
  kept = λ h e is. q.kept h e (p.kept h e is);
  from = λ h e is. elim (q.from h e is) [
    | inl before ↦ elim (p.from h e before) [ inl first ↦ inl first | inr has ↦ inr (q.still h has) ]
    | inr has ↦ inr has
  ];
  still = λ h has. q.still h (p.still h has);
  count = q.count ∙ p.count;
}

cases_at : (o : Option Extent) → ((e : Extent) × (o ≡ Some e)) ⊎ (o ≡ None)
cases_at (Some e) = inl (e, refl)
cases_at None = inr refl

-- a helper that pends still pends afterwards
pub pends_on : (helpers : List Body) (old new : Table) (before after : List ℕ) (f : ℕ) → Settle old new before after →
    PendsBy helpers old before f → PendsBy helpers new after f
pends_on helpers old new before after f step (inl settled) = inl (settled.0, step.kept f settled.0 settled.1)
pends_on helpers old new before after f step (inr (g, c, inl none)) = elim (cases_at (extent_at new g)) [
  | inl some ↦ elim (step.from g some.0 some.1) [
    | inl was ↦ absurd (none_some some.0 none was)
    | inr has ↦ inr (g, c, inr has)
  ]
  | inr still ↦ inr (g, c, inl still)
]
  where
    none_some : (e : Extent) → extent_at old g ≡ None → extent_at old g ≡ Some e → ⊥
    none_some e n s = none-some e (sym n ∙ s)
pends_on helpers old new before after f step (inr (g, c, inr has)) = inr (g, c, inr (step.still g has))

-- a helper that is not settled is there
pub open_there : (table : Table) (h : ℕ) → extent_at table h ≡ None → h < length table
open_there table h none = elim (cases_lt h (length table)) [
  | inl lt ↦ lt
  | inr ge ↦ absurd (none-some no_extent (sym none ∙ get_or_past table h (Some no_extent) ge))
]

-- the calls up to a place that are of settled helpers, and one more
pub passed_next : (table : Table) (cs : List CallSite) (i : ℕ) (d : CallSite) (e : Extent) → i < length cs →
    extent_at table (get_or cs i d).helper ≡ Some e → CallsOnly (IsSettled table) (take i cs) → CallsOnly (IsSettled table) (take (i + 1) cs)
passed_next table cs i d e lt is before =
    subst (λ (l : List CallSite). CallsOnly (IsSettled table) l) (sym (take_more cs i d lt)) (only_push (IsSettled table) (take i cs) (get_or cs i d) before (e, is))

-- further calls of a helper are passed
pub passed_on : (helpers : List Body) (table : Table) (passed ready : List ℕ) (f k : ℕ) (b : Body) → AreSettling helpers table passed ready →
    slice_get helpers f ≡ Some b → CallsOnly (IsSettled table) (take k b.calls) → AreSettling helpers table (set passed f k) ready
passed_on helpers table passed ready f k b before is only = record {
  long = before.long;
  passed_long = length-set passed f k ∙ before.passed_long;
  ends = before.ends;
  passes = λ g x at. elim (cases_eq g f) [
    | inl same ↦
        let there : f < length passed = omega (arith, slice_get_within helpers f b is, before.passed_long) in
        let body : b ≡ x = same_Some b x (sym is ∙ ap (slice_get helpers) (sym same) ∙ at) in
        let now : get_or (set passed f k) g 0 ≡ k = ap (λ (n : ℕ). get_or (set passed f k) n 0) same ∙ get_or-set_same passed f k 0 there in
        subst (λ (n : ℕ). CallsOnly (IsSettled table) (take n x.calls)) (sym now) (subst (λ (y : Body). CallsOnly (IsSettled table) (take k y.calls)) body only)
    | inr ne ↦ subst (λ (n : ℕ). CallsOnly (IsSettled table) (take n x.calls)) (sym (get_or-set_other passed f g k 0 ne)) (before.passes g x at)
  ];
  within = before.within;
}

module _ (table : Table) (f : ℕ) (e : Extent) (open_yet : extent_at table f ≡ None) where
  abbrev settled_one : Table
  settled_one = set table f (Some e)

  pub settled_same : extent_at settled_one f ≡ Some e
  settled_same = get_or-set_same table f (Some e) (Some no_extent) (open_there table f open_yet)

  settled_other : (h : ℕ) → h ≢ f → extent_at settled_one h ≡ extent_at table h
  settled_other h ne = get_or-set_other table f h (Some e) (Some no_extent) ne

  settled_kept : (h : ℕ) (x : Extent) → extent_at table h ≡ Some x → extent_at settled_one h ≡ Some x
  settled_kept h x is = elim (cases_eq h f) [
    | inl same ↦ absurd (none-some x (sym open_yet ∙ ap (extent_at table) (sym same) ∙ is))
    | inr ne ↦ settled_other h ne ∙ is
  ]

  one_fewer : unsettled settled_one + 1 ≡ unsettled table
  one_fewer =
      let sums : unsettled settled_one + open_one (extent_at table f) ≡ unsettled table + 0 =
      sum_by-set open_one table f (Some e) (Some no_extent) (open_there table f open_yet) in
      let one : open_one (extent_at table f) ≡ 1 = ap open_one open_yet in
      omega (arith, sums, one)

  pub settle_one : (ready : List ℕ) → Settle table settled_one ready (ready ++ f ∷ [])
  settle_one ready = record {
    kept = settled_kept;
    from = λ h x is. elim (cases_eq h f) [
      | inl same ↦ inr (subst (Has (ready ++ f ∷ [])) (sym same) (has_last ready f))
      | inr ne ↦ inl (sym (settled_other h ne) ∙ is)
    ];
    still = λ h has. has_push ready f h has;
    count = omega (arith, one_fewer, length_push ready f);
  }

  pub settling_one : (helpers : List Body) (passed ready : List ℕ) → AreSettling helpers table passed ready → IsExtentOf helpers f e →
      AreSettling helpers settled_one passed (ready ++ f ∷ [])
  settling_one helpers passed ready before right = record {
    long = length-set table f (Some e) ∙ before.long;
    passed_long = before.passed_long;
    ends = λ h x is. elim (cases_eq h f) [
      | inl same ↦
          let value : e ≡ x = same_Some e x (sym settled_same ∙ ap (extent_at settled_one) (sym same) ∙ is) in
          subst (λ (y : Extent). IsExtentOf helpers h y) value (subst (λ (n : ℕ). IsExtentOf helpers n e) (sym same) right)
      | inr ne ↦ before.ends h x (sym (settled_other h ne) ∙ is)
    ];
    passes = λ g b at. only_like (IsSettled table) (IsSettled settled_one) (λ h s. (s.0, settled_kept h s.0 s.1)) (take (get_or passed g 0) b.calls) (before.passes g b at);
    within = λ h has. elim (has_either ready f h has) [
      | inl earlier ↦ before.within h earlier
      | inr same ↦ omega (arith, same, open_there table f open_yet, before.long)
    ];
  }

-- a call of a helper that is not settled
pub waits_for : (helpers : List Body) (table : Table) (ready : List ℕ) (f k : ℕ) (b : Body) (d : CallSite) → slice_get helpers f ≡ Some b →
    IsOpenFrom table b.calls k → k < length b.calls → PendsBy helpers table ready f
waits_for helpers table ready f k b d is at lt = inr ((get_or b.calls k d).helper, (b, is, call_at b.calls k d lt), inl (at.open_there d lt))

-- all calls are of settled helpers
pub all_passed : (table : Table) (cs : List CallSite) (k : ℕ) → IsOpenFrom table cs k → length cs ≤ k → CallsOnly (IsSettled table) cs
all_passed table cs k at le = subst (λ (l : List CallSite). CallsOnly (IsSettled table) l) (take_all k cs le) at.settled

-- ---- the start, and the end

nothing_yet : (n h : ℕ) (e : Extent) → extent_at (replicate n None) h ≡ Some e → n ≤ h
nothing_yet n h e is = elim (cases_lt h n) [
  | inl lt ↦ absurd (none-some e (sym (get_or-replicate n h None (Some no_extent) lt) ∙ is))
  | inr ge ↦ ge
]

-- a helper that does not exist
past_extent : (helpers : List Body) (h : ℕ) → length helpers ≤ h → IsExtentOf helpers h no_extent
past_extent helpers h past = (
  le-ltb (length helpers) (depth helpers h) (omega (arith, none_deep helpers (far helpers) h past)),
  none_within helpers (length helpers) h past ∙ ap (λ (n : ℕ). extent_within n helpers h) (sym (add-one (length helpers))),
)

pub settling_none : (helpers : List Body) (n : ℕ) → n ≡ length helpers →
    AreSettling helpers (replicate n None) (replicate n 0) []
settling_none helpers n all = record {
  long = length-replicate {A = Option Extent} n None ∙ all;
  passed_long = length-replicate n 0 ∙ all;
  ends = λ h e is.
      let past : n ≤ h = nothing_yet n h e is in
      let value : no_extent ≡ e = same_Some no_extent e (sym (get_or_past (replicate n None) h (Some no_extent) (omega (arith, past, length-replicate {A = Option Extent} n None))) ∙ is) in
      subst (λ (x : Extent). IsExtentOf helpers h x) value (past_extent helpers h (omega (arith, past, all)));
  passes = λ f b is.
      subst (λ (k : ℕ). CallsOnly (IsSettled (replicate n None)) (take k b.calls))
      (sym (get_or-replicate n f 0 0 (omega (arith, slice_get_within helpers f b is, all)))) tt;
  within = λ h has. absurd has;
}

-- a helper that pended still pends, once the callers of a ready helper were looked at
pub pends_popped : (helpers : List Body) (rows : List (Vec ℕ Global)) (n : ℕ) (old new : Table) (ready rest after : List ℕ) (h f : ℕ) →
    IsCallersTo helpers rows n → n ≡ length helpers → h < length rows → ready ≡ rest ++ h ∷ [] → Settle old new rest after →
    ((x : ℕ) → Has (row_at rows h) x → PendsBy helpers new after x) → PendsBy helpers old ready f → PendsBy helpers new after f
pends_popped helpers rows n old new ready rest after h f callers all there popped step seen_all (inl settled) =
    pends_on helpers old new rest after f step (inl settled)
pends_popped helpers rows n old new ready rest after h f callers all there popped step seen_all (inr (g, c, inl none)) =
    pends_on helpers old new rest after f step (inr (g, c, inl none))
pends_popped helpers rows n old new ready rest after h f callers all there popped step seen_all (inr (g, c, inr has)) =
    elim (has_either rest h g (subst (λ (l : List ℕ). Has l g) popped has)) [
      | inl left ↦ pends_on helpers old new rest after f step (inr (g, c, inr left))
      | inr same ↦
          let called : Calls helpers f h = subst (Calls helpers f) (sym same) c in
          seen_all f (callers.called f h (omega (arith, first_there helpers f h (calls called), all)) there called)
    ]

-- one that is not settled at the end calls another such one
open_calls : (helpers : List Body) (table : Table) (f : ℕ) → PendsBy helpers table [] f → extent_at table f ≡ None →
    (g : ℕ) × Calls helpers f g × (extent_at table g ≡ None)
open_calls helpers table f (inl settled) none = absurd (none-some settled.0 (sym none ∙ settled.1))
open_calls helpers table f (inr (g, c, inl open_g)) none = (g, c, open_g)
open_calls helpers table f (inr (g, c, inr has)) none = absurd has

open_deep : (helpers : List Body) (table : Table) → ((f : ℕ) → PendsBy helpers table [] f) → (n f : ℕ) →
    extent_at table f ≡ None → n ≤ depth_within n helpers f
open_deep helpers table pend zero f none = omega arith
open_deep helpers table pend (suc n) f none =
    let next : (g : ℕ) × Calls helpers f g × (extent_at table g ≡ None) = open_calls helpers table f (pend f) none in
    let deep : n ≤ depth_within n helpers next.0 = open_deep helpers table pend n next.0 next.2 in
    let more : depth_within n helpers next.0 + 1 ≤ depth_within (suc n) helpers f = called_deeper helpers n f next.0 next.1 in
    omega (arith, deep, more)

pub all_settled : (helpers : List Body) (table : Table) (passed ready : List ℕ) → AreSettling helpers table passed ready → ready ≡ [] →
    ((f : ℕ) → PendsBy helpers table ready f) → IsExtents helpers table
all_settled helpers table passed ready is none pend =
    let ended : (f : ℕ) → PendsBy helpers table [] f = λ f. subst (λ (l : List ℕ). PendsBy helpers table l f) none (pend f) in
    record {
      long = is.long;
      ends = is.ends;
      endless = λ h open_h. (
          let deep : far helpers ≤ depth helpers h = open_deep helpers table ended (far helpers) h open_h in
          lt-ltb (length helpers) (depth helpers h) (omega (arith, deep))
          );
    }

-- a helper that is past the last one is settled
pub past_settled : (helpers : List Body) (table : Table) (passed ready : List ℕ) (f : ℕ) → AreSettling helpers table passed ready →
    length helpers ≤ f → PendsBy helpers table ready f
past_settled helpers table passed ready f is past = inl (no_extent, get_or_past table f (Some no_extent) (omega (arith, past, is.long)))

-- ---- tests of the code

pub some_if : (o : Option Extent) (b : Bool) → b ≡ is_some o → b ≡ true → (e : Extent) × (o ≡ Some e)
some_if (Some e) b is passes = (e, refl)
some_if None b is passes = absurd (both_ways b is passes)

pub none_if : (o : Option Extent) (b : Bool) → b ≡ is_some o → b ≡ false → o ≡ None
none_if (Some e) b is fails = absurd (both_ways b fails is)
none_if None b is fails = refl

-- without one of those that are ready
pub settling_rest : (helpers : List Body) (table : Table) (passed ready rest : List ℕ) (h : ℕ) → AreSettling helpers table passed ready →
    ready ≡ rest ++ h ∷ [] → AreSettling helpers table passed rest
settling_rest helpers table passed ready rest h is popped = record {
  long = is.long;
  passed_long = is.passed_long;
  ends = is.ends;
  passes = is.passes;
  within = λ x has. is.within x (subst (λ (l : List ℕ). Has l x) (sym popped) (has_push rest h x has));
}
