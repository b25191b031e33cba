-- Reaching classes one after another, and the way back.
use Rattle.std.proofs.Common.{◌≡◌, ℕ, zero, suc, ◌+◌, ◌≤◌, ◌<◌, true, false, List, [], ◌∷◌, ◌++◌, set, replicate}
use Rattle.std.proofs.Common.{length, get_or, Option, Some, None, ◌⊎◌, inl, inr, refl, sym, ap, ◌∙◌, subst, arith}
use Rattle.std.proofs.Common.{length-append}
use Rattle.std.specs.Prelude.{◌≢◌, slice_get, slice_index, nat_le}
use Rattle.std.specs.List.{All, AllPairs, Contains}
use Rattle.std.specs.Option.{is_some}
use Rattle.std.proofs.Math.ListN.{length-set, length-replicate}
use Rattle.std.proofs.lemmas.Bool.{cases_eq, cases_lt, cases_Bool, leb-true, leb-false}
use Rattle.std.proofs.lemmas.Option.{none-some, same_Some, slice_get_within, slice_get-get_or}
use Rattle.std.proofs.lemmas.List.{get_or-set_same, get_or-set_other, get_or_past, get_or_read}
use Rattle.std.proofs.lemmas.List.Elements.{All-nil, All-cons, All-push, All-weaker, All-contains}
use Rattle.std.proofs.lemmas.List.Elements.{Contains-append_left, Contains-push, Contains-push_cases}
use Rattle.flow.specs.Flow.{Plus, one, more as further}
use Rattle.bit_set.specs.declared.set.BitSet.{BitSet}
use Rattle.lockorder.specs.declared.cycles.Reached.{Reached}
use Rattle.lockorder.specs.Ranks.{LeadTo, IsCycle}
use Rattle.lockorder.specs.Working.Tables.{InTable, IsOnCycle}
use Rattle.lockorder.specs.Working.Reached.{distance_of, HasDistance, LeadsNearer, IsDone, AreReached, KeepsReached}
use Rattle.lockorder.specs.Working.Reached.{AreDistances, IsNearestBelow, nearer}
use Rattle.lockorder.proofs.Lists.{no_more, distinct_push}
use Rattle.core_lang.specs.Theory.Items.{not_in_none, in_first, in_cases, contains_at, at_contained}

some_is_some : (o : Option ℕ) (a b : ℕ) → o ≡ Some a → o ≡ Some b → a ≡ b
some_is_some o a b e f = same_Some a b (sym e ∙ f)

not_both : (o : Option ℕ) (a : ℕ) → o ≡ None → o ≡ Some a → ⊥
not_both o a e f = none-some a (sym e ∙ f)

-- ---- distances

-- a class with a distance is a class of the list
within : (ds : List (Option ℕ)) (c k : ℕ) → distance_of ds c ≡ Some k → c < length ds
within ds c k e =
    elim (cases_lt c (length ds)) [ inl lt ↦ lt | inr ge ↦ absurd (not_both (distance_of ds c) k (get_or_past ds c None ge) e) ]

set_here : (ds : List (Option ℕ)) (b k : ℕ) → b < length ds → distance_of (set ds b (Some k)) b ≡ Some k
set_here ds b k lt = get_or-set_same ds b (Some k) None lt

set_there : (ds : List (Option ℕ)) (b k c : ℕ) → c ≢ b → distance_of (set ds b (Some k)) c ≡ distance_of ds c
set_there ds b k c ne = get_or-set_other ds b c (Some k) None ne

none_anywhere : (n c : ℕ) → distance_of (replicate n None) c ≡ None
none_anywhere zero c = refl
none_anywhere (suc n) zero = refl
none_anywhere (suc n) (suc c) = none_anywhere n c

-- ---- the target alone

module _ (before : List BitSet) (r : Reached) (lt : r.target < length before) (ds : r.distances.items ≡ set (replicate (length before) None) r.target (Some 0)) (cs : r.classes.items ≡ r.target ∷ []) where
  none : List (Option ℕ)
  none = replicate (length before) None

  alone_at : (c k : ℕ) → distance_of r.distances.items c ≡ Some k → (c ≡ r.target) × (k ≡ 0)
  alone_at c k e =
      let f : distance_of (set (replicate (length before) None) r.target (Some 0)) c ≡ Some k = ap (λ l. distance_of l c) (sym ds) ∙ e in
      elim (cases_eq c r.target) [
        | inl same ↦
            let here = set_here (replicate (length before) None) r.target 0 (omega (arith, lt, length-replicate {A = Option ℕ} (length before) None)) in
            (same, some_is_some _ k 0 f (ap (distance_of (set (replicate (length before) None) r.target (Some 0))) same ∙ here))
        | inr ne ↦ absurd (not_both _ k (set_there (replicate (length before) None) r.target 0 c ne ∙ none_anywhere (length before) c) f)
      ]

  alone_there : distance_of r.distances.items r.target ≡ Some 0
  alone_there = ap (λ l. distance_of l r.target) ds ∙ set_here (replicate (length before) None) r.target 0 (omega (arith, lt, length-replicate {A = Option ℕ} (length before) None))

  pub alone_reached : AreReached before r
  alone_reached = record {
    long = ap length ds ∙ length-set (replicate (length before) None) r.target (Some 0) ∙ length-replicate (length before) None;
    target = alone_there;
    nearer = λ c k e. inl (alone_at c k e).0;
    listed = λ c h. subst (λ l. Contains l c) (sym cs) (subst (Contains (r.target ∷ [])) (sym (alone_at c h.0 h.1).0) (in_first r.target []));
    known = subst (All (HasDistance r.distances.items)) (sym cs) (All-cons (HasDistance r.distances.items) r.target [] (0, alone_there) (All-nil (HasDistance r.distances.items)));
    small = λ c k e. omega (arith, (alone_at c k e).1, ap length cs);
    distinct = λ i j d less h. absurd (omega (arith, ap length cs));
  }

-- ---- one more class

module _ (before : List BitSet) (old new : Reached) (class distance b : ℕ) (r : AreReached before old) (at : distance_of old.distances.items class ≡ Some distance)
    (edge : InTable before b class) (lt : b < length before) (unknown : distance_of old.distances.items b ≡ None)
    (target : new.target ≡ old.target) (ds : new.distances.items ≡ set old.distances.items b (Some (distance + 1))) (cs : new.classes.items ≡ old.classes.items ++ b ∷ []) where
  abbrev with_b : List (Option ℕ)
  with_b = set old.distances.items b (Some (distance + 1))

  in_new : (c k : ℕ) → distance_of with_b c ≡ Some k → distance_of new.distances.items c ≡ Some k
  in_new c k e = ap (λ l. distance_of l c) ds ∙ e

  here : distance_of new.distances.items b ≡ Some (distance + 1)
  here = in_new b (distance + 1) (set_here old.distances.items b (distance + 1) (omega (arith, lt, r.long)))

  stays : (c k : ℕ) → distance_of old.distances.items c ≡ Some k → distance_of new.distances.items c ≡ Some k
  stays c k e =
      in_new c k (set_there old.distances.items b (distance + 1) c (λ same. not_both _ k unknown (ap (distance_of old.distances.items) (sym same) ∙ e)) ∙ e)

  new_or_old : (c k : ℕ) → distance_of new.distances.items c ≡ Some k →
      ((c ≡ b) × (k ≡ distance + 1)) ⊎ (distance_of old.distances.items c ≡ Some k)
  new_or_old c k e =
      elim (cases_eq c b) [
        | inl same ↦ inl (same, some_is_some _ k (distance + 1) e (ap (distance_of new.distances.items) same ∙ here))
        | inr ne ↦ inr (sym (set_there old.distances.items b (distance + 1) c ne) ∙ ap (λ l. distance_of l c) (sym ds) ∙ e)
      ]

  longer_by_one : length new.classes.items ≡ length old.classes.items + 1
  longer_by_one = ap length cs ∙ length-append old.classes.items (b ∷ [])

  nearer_still : (c k : ℕ) → (c ≡ old.target) ⊎ LeadsNearer before old.distances.items c k →
      (c ≡ new.target) ⊎ LeadsNearer before new.distances.items c k
  nearer_still c k (inl e) = inl (e ∙ sym target)
  nearer_still c k (inr (d, m, e, f, g)) = inr (d, m, e, stays d m f, g)

  pub one_reached : AreReached before new
  one_reached = record {
    long = ap length ds ∙ length-set old.distances.items b (Some (distance + 1)) ∙ r.long;
    target = ap (distance_of new.distances.items) target ∙ stays old.target 0 r.target;
    nearer = λ c k e. elim (new_or_old c k e) [
      | inl is ↦ inr (class, distance, subst (λ x. InTable before x class) (sym is.0) edge, stays class distance at, omega (arith, is.1))
      | inr f ↦ nearer_still c k (r.nearer c k f)
    ];
    listed = λ c h. subst (λ l. Contains l c) (sym cs) (elim (new_or_old c h.0 h.1) [
      | inl is ↦ subst (Contains (old.classes.items ++ b ∷ [])) (sym is.0) (Contains-push old.classes.items b)
      | inr f ↦ Contains-append_left old.classes.items (b ∷ []) c (r.listed c (h.0, f))
    ]);
    known = subst (All (HasDistance new.distances.items)) (sym cs) (All-push (HasDistance new.distances.items) old.classes.items b
        (All-weaker (HasDistance old.distances.items) (HasDistance new.distances.items) (λ c h. (h.0, stays c h.0 h.1)) old.classes.items r.known) (distance + 1, here));
    small = λ c k e. elim (new_or_old c k e) [
      | inl is ↦ omega (arith, is.1, longer_by_one, r.small class distance at)
      | inr f ↦ omega (arith, longer_by_one, r.small c k f)
    ];
    distinct = subst (AllPairs ◌≢◌) (sym cs) (distinct_push old.classes.items b r.distinct
        (λ c. let h = All-contains (HasDistance old.distances.items) old.classes.items b r.known c in not_both _ h.0 unknown h.1));
  }

  in_front : (i c : ℕ) → slice_get old.classes.items i ≡ Some c → slice_get new.classes.items i ≡ Some c
  in_front i c e = ap (λ l. slice_get l i) cs ∙ front old.classes.items (b ∷ []) i c e
    where
      front : (xs ys : List ℕ) (i c : ℕ) → slice_get xs i ≡ Some c → slice_get (xs ++ ys) i ≡ Some c
      front [] ys i c e = absurd (none-some c e)
      front (x ∷ xs) ys zero c e = e
      front (x ∷ xs) ys (suc i) c e = front xs ys i c e

  pub one_kept : KeepsReached old new
  one_kept = record { target = target; distances = stays; classes = in_front }

  pub one_has : HasDistance new.distances.items b
  one_has = (distance + 1, here)

pub all_kept : (r : Reached) → KeepsReached r r
all_kept r = record { target = refl; distances = λ c k e. e; classes = λ i c e. e }

pub kept_further : (a b c : Reached) → KeepsReached a b → KeepsReached b c → KeepsReached a c
kept_further a b c x y = record {
  target = y.target ∙ x.target;
  distances = λ d k e. y.distances d k (x.distances d k e);
  classes = λ i d e. y.classes i d (x.classes i d e);
}

-- ---- the state after a turn

-- each class below the bound that has to come before `class` has a distance
pub record IsReaching (before : List BitSet) (old r : Reached) (class bound : ℕ) : Type 0 where
  pub reached : AreReached before r
  pub kept : KeepsReached old r
  pub done : (b : ℕ) → b < bound → InTable before b class → HasDistance r.distances.items b

reaching_next : (before : List BitSet) (old r new : Reached) (class bound : ℕ) → IsReaching before old r class bound →
    AreReached before new → KeepsReached r new →
    (InTable before bound class → HasDistance new.distances.items bound) → IsReaching before old new class (bound + 1)
reaching_next before old r new class bound i reached kept here = record {
  reached = reached;
  kept = kept_further old r new i.kept kept;
  done = λ b lt edge. elim (cases_lt b bound) [
    | inl less ↦ let h = i.done b less edge in (h.0, kept.distances b h.0 h.1)
    | inr ge ↦ let at : b ≡ bound = omega arith in subst (HasDistance new.distances.items) (sym at) (here (subst (λ x. InTable before x class) at edge))
  ];
}

-- the class at the bound has no edge to it, or has a distance already
pub reaching_skip : (before : List BitSet) (old r new : Reached) (class bound : ℕ) →
    IsReaching before old r class bound → new ≡ r →
    (InTable before bound class → HasDistance r.distances.items bound) → IsReaching before old new class (bound + 1)
reaching_skip before old r new class bound i same here =
    subst (λ (x : Reached). IsReaching before old x class (bound + 1)) (sym same) (reaching_next before old r r class bound i i.reached (all_kept r) here)

-- the class at the bound is reached now
pub reaching_take : (before : List BitSet) (old r new : Reached) (class bound distance : ℕ) →
    IsReaching before old r class bound → bound < length before →
    distance_of old.distances.items class ≡ Some distance → InTable before bound class → distance_of r.distances.items bound ≡ None →
    new.target ≡ r.target → new.distances.items ≡ set r.distances.items bound (Some (distance + 1)) → new.classes.items ≡ r.classes.items ++ bound ∷ [] →
    IsReaching before old new class (bound + 1)
reaching_take before old r new class bound distance i lt at edge unknown target ds cs =
    let there = i.kept.distances class distance at in
    reaching_next before old r new class bound i
    (one_reached before r new class distance bound i.reached there edge lt unknown target ds cs)
    (one_kept before r new class distance bound i.reached there edge lt unknown target ds cs)
    (λ e. one_has before r new class distance bound i.reached there edge lt unknown target ds cs)

-- for each of the first `bound` classes that were reached, all classes that have to come before it are reached
pub record AreDoneBelow (before : List BitSet) (r : Reached) (bound : ℕ) : Type 0 where
  pub reached : AreReached before r
  pub done : (i c : ℕ) → i < bound → slice_get r.classes.items i ≡ Some c → IsDone before r.distances.items c

module _ (before : List BitSet) (r : Reached) (a : AreReached before r) where
  pub reached_within : (c : ℕ) → HasDistance r.distances.items c → c < length before
  reached_within c h = omega (arith, within r.distances.items c h.0 h.1, a.long)

  pub reached_room : length r.classes.items ≤ length before
  reached_room = no_more r.classes.items (length before) a.distinct (All-weaker (HasDistance r.distances.items) (λ c. c < length before) reached_within r.classes.items a.known)

  pub known_at : (i c : ℕ) → slice_get r.classes.items i ≡ Some c → HasDistance r.distances.items c
  known_at i c e = All-contains (HasDistance r.distances.items) r.classes.items c a.known (contains_at r.classes.items i c e)

pub done_next : (before : List BitSet) (old new : Reached) (bound class : ℕ) → AreDoneBelow before old bound →
    slice_get old.classes.items bound ≡ Some class →
    AreReached before new → KeepsReached old new → IsDone before new.distances.items class → AreDoneBelow before new (bound + 1)
done_next before old new bound class d here reached kept done = record {
  reached = reached;
  done = λ i c lt e b edge. elim (cases_lt i bound) [
    | inl less ↦
        let o = old_at i less in
        let same : o.0 ≡ c = some_is_some _ o.0 c (kept.classes i o.0 o.1) e in
        let h = d.done i o.0 less o.1 b (subst (InTable before b) (sym same) edge) in
        (h.0, kept.distances b h.0 h.1)
    | inr ge ↦
        let at : i ≡ bound = omega arith in
        let same : class ≡ c = some_is_some _ class c (kept.classes bound class here) (ap (slice_get new.classes.items) (sym at) ∙ e) in
        done b (subst (InTable before b) (sym same) edge)
  ];
}
  where
    old_at : (i : ℕ) → i < bound → (c : ℕ) × (slice_get old.classes.items i ≡ Some c)
    old_at i less = let lt = slice_get_within old.classes.items bound class here in (get_or old.classes.items i 0, slice_get-get_or old.classes.items i 0 (omega (arith, lt, less)))

pub all_done : (before : List BitSet) (r : Reached) (bound : ℕ) → AreDoneBelow before r bound →
    length r.classes.items ≤ bound → AreDistances before r
all_done before r bound d le = record {
  reached = d.reached;
  all = λ c h.
      let i = at_contained r.classes.items c (d.reached.listed c h) in
      d.done i.0 c (omega (arith, le, slice_get_within r.classes.items i.0 c i.1)) i.1;
}

-- ---- the distances that are read

pub distance_read : (ds : List (Option ℕ)) (c : ℕ) (o : Option ℕ) (k : ℕ) → c < length ds → o ≡ get_or ds c o →
    o ≡ Some k → distance_of ds c ≡ Some k
distance_read ds c o k lt e is = sym (get_or_read ds c o lt e None) ∙ is

pub distance_unread : (ds : List (Option ℕ)) (c : ℕ) (o : Option ℕ) → c < length ds → o ≡ get_or ds c o →
    ((k : ℕ) → o ≡ Some k → ⊥) → (k : ℕ) → distance_of ds c ≡ Some k → ⊥
distance_unread ds c o lt e none k is = none k (get_or_read ds c o lt e None ∙ is)

pub distance_none : (ds : List (Option ℕ)) (c : ℕ) (o : Option ℕ) → c < length ds → o ≡ get_or ds c o →
    is_some o ≡ false → distance_of ds c ≡ None
distance_none ds c None lt e is = sym (get_or_read ds c None lt e None)
distance_none ds c (Some k) lt e is = absurd cc

pub distance_some : (ds : List (Option ℕ)) (c : ℕ) (o : Option ℕ) → c < length ds → o ≡ get_or ds c o →
    is_some o ≡ true → HasDistance ds c
distance_some ds c None lt e is = absurd cc
distance_some ds c (Some k) lt e is = (k, sym (get_or_read ds c (Some k) lt e None))

pub none_if_not_some : (before : List BitSet) (ds : List (Option ℕ)) (c bound : ℕ) (o : Option (ℕ × ℕ)) →
    IsNearestBelow before ds c bound o → ((x : ℕ × ℕ) → o ≡ Some x → ⊥) →
    IsNearestBelow before ds c bound None
none_if_not_some before ds c bound None h never = h
none_if_not_some before ds c bound (Some x) h never = absurd (never x refl)

-- ---- the nearest

module _ (before : List BitSet) (ds : List (Option ℕ)) (c b : ℕ) where
  pub nearest_skip : (o : Option (ℕ × ℕ)) → IsNearestBelow before ds c b o →
      ((k : ℕ) → InTable before c b → distance_of ds b ≡ Some k → ⊥) → IsNearestBelow before ds c (b + 1) o
  nearest_skip None h never = λ d k lt edge e. elim (cases_lt d b) [
    | inl less ↦ h d k less edge e
    | inr ge ↦ let same : d ≡ b = omega arith in never k (subst (InTable before c) same edge) (ap (distance_of ds) (sym same) ∙ e)
  ]
  nearest_skip (Some x) h never = (
    h.0,
    h.1,
    λ d k lt edge e. elim (cases_lt d b) [
      | inl less ↦ h.2 d k less edge e
      | inr ge ↦ let same : d ≡ b = omega arith in absurd (never k (subst (InTable before c) same edge) (ap (distance_of ds) (sym same) ∙ e))
    ],
  )

  module _ (k : ℕ) (edge : InTable before c b) (at : distance_of ds b ≡ Some k) where
    is_here : (d m : ℕ) → b ≤ d → d < b + 1 → distance_of ds d ≡ Some m → m ≡ k
    is_here d m ge lt e = let same : d ≡ b = omega arith in some_is_some _ m k (ap (distance_of ds) (sym same) ∙ e) at

    pub nearest_take : (o : Option (ℕ × ℕ)) → IsNearestBelow before ds c b o →
        IsNearestBelow before ds c (b + 1) (nearer o b k)
    nearest_take None h = (
      edge,
      at,
      λ d m lt edge e. elim (cases_lt d b) [
        | inl less ↦ absurd (h d m less edge e)
        | inr ge ↦ let same = is_here d m ge lt e in omega arith
      ],
    )
    nearest_take (Some x) h = elim (cases_Bool (nat_le x.1 k)) [
      | inl is_so ↦
          let less = leb-true x.1 k is_so in
          let kept : IsNearestBelow before ds c (b + 1) (Some x) = (
            h.0,
            h.1,
            λ d m lt edge e. elim (cases_lt d b) [
              | inl less ↦ h.2 d m less edge e
              | inr ge ↦ let same = is_here d m ge lt e in omega arith
            ],
          ) in
          subst (IsNearestBelow before ds c (b + 1)) (sym (taken is_so)) kept
      | inr not_so ↦
          let far = leb-false x.1 k not_so in
          let new : IsNearestBelow before ds c (b + 1) (Some (b, k)) = (
            edge,
            at,
            λ d m lt edge e. elim (cases_lt d b) [
              | inl less ↦ let farther = h.2 d m less edge e in omega arith
              | inr ge ↦ let same = is_here d m ge lt e in omega arith
            ],
          ) in
          subst (IsNearestBelow before ds c (b + 1)) (sym (left not_so)) new
    ]
      where
        taken : nat_le x.1 k ≡ true → nearer (Some x) b k ≡ Some x
        taken e = rw e

        left : nat_le x.1 k ≡ false → nearer (Some x) b k ≡ Some (b, k)
        left e = rw e

-- ---- the way back

-- the cycle so far: each class leads to the next one, the last one to `class`, and all but the target are farther away
-- than `class`
pub record IsWay (before : List BitSet) (r : Reached) (cycle : List ℕ) (class distance : ℕ) : Type 0 where
  pub lead : LeadTo (InTable before) class cycle
  pub first : slice_index cycle 0 ≡ r.target
  pub some : 0 < length cycle
  pub distinct : AllPairs ◌≢◌ cycle
  pub ahead : (x : ℕ) → Contains cycle x →
      (x ≡ r.target) ⊎ ((k : ℕ) × (distance_of r.distances.items x ≡ Some k) × (distance < k))
  pub at : distance_of r.distances.items class ≡ Some distance

lead_on : (E : ℕ → ℕ → Type 0) (cycle : List ℕ) (class next : ℕ) → LeadTo E class cycle → E class next →
    LeadTo E next (cycle ++ class ∷ [])
lead_on E [] class next l e = e
lead_on E (c ∷ []) class next l e = (l, e)
lead_on E (c ∷ d ∷ rest) class next l e = (l.0, lead_on E (d ∷ rest) class next l.1 e)

first_still : (cycle : List ℕ) (c : ℕ) → 0 < length cycle → slice_index (cycle ++ c ∷ []) 0 ≡ slice_index cycle 0
first_still [] c h = absurd (omega arith)
first_still (x ∷ cycle) c h = refl

module _ (before : List BitSet) (r : Reached) (all : AreDistances before r) where
  pub way_starts : (class distance : ℕ) (cycle : List ℕ) → InTable before r.target class →
      distance_of r.distances.items class ≡ Some distance → cycle ≡ r.target ∷ [] →
      IsWay before r cycle class distance
  way_starts class distance cycle edge at e = record {
    lead = subst (LeadTo (InTable before) class) (sym e) edge;
    first = ap (λ l. slice_index l 0) e;
    some = omega (arith, ap length e);
    distinct = λ i j d less h. absurd (omega (arith, ap length e));
    ahead = λ x h. elim (in_cases r.target x [] (subst (λ l. Contains l x) e h)) [ inl same ↦ inl (sym same) | inr more ↦ absurd (not_in_none x more) ];
    at = at;
  }

  -- a class other than the target leads to a nearer one
  leads_nearer : (class distance : ℕ) → 0 < distance → distance_of r.distances.items class ≡ Some distance →
      LeadsNearer before r.distances.items class distance
  leads_nearer class distance some at =
      elim (all.reached.nearer class distance at) [
        | inl e ↦ absurd (omega (arith, some_is_some _ distance 0 at (ap (distance_of r.distances.items) e ∙ all.reached.target)))
        | inr n ↦ n
      ]

  module _ (class distance : ℕ) (some : 0 < distance) (at : distance_of r.distances.items class ≡ Some distance) where
    pub nearest_is_some : IsNearestBelow before r.distances.items class (length before) None → ⊥
    nearest_is_some h =
        let n = leads_nearer class distance some at in
        h n.0 n.1 (reached_within before r all.reached n.0 (n.1, n.3)) n.2 n.3

    pub nearest_is_nearer : (x : ℕ × ℕ) → IsNearestBelow before r.distances.items class (length before) (Some x) →
        x.1 < distance
    nearest_is_nearer x h =
        let n = leads_nearer class distance some at in
        omega (arith, n.4, h.2 n.0 n.1 (reached_within before r all.reached n.0 (n.1, n.3)) n.2 n.3)

  pub way_goes_on : (cycle after : List ℕ) (class distance next left : ℕ) → IsWay before r cycle class distance →
      0 < distance → InTable before class next →
      distance_of r.distances.items next ≡ Some left → left < distance → after ≡ cycle ++ class ∷ [] → IsWay before r after next left
  way_goes_on cycle after class distance next left w some edge at less e = record {
    lead = subst (LeadTo (InTable before) next) (sym e) (lead_on (InTable before) cycle class next w.lead edge);
    first = ap (λ l. slice_index l 0) e ∙ first_still cycle class w.some ∙ w.first;
    some = omega (arith, ap length e, length-append cycle (class ∷ []));
    distinct = subst (AllPairs ◌≢◌) (sym e) (distinct_push cycle class w.distinct (λ h. elim (w.ahead class h) [
      | inl is ↦ omega (arith, some_is_some _ distance 0 w.at (ap (distance_of r.distances.items) is ∙ all.reached.target))
      | inr far ↦ omega (arith, far.2, some_is_some _ far.0 distance far.1 w.at)
    ]));
    ahead = λ x h. elim (Contains-push_cases cycle class x (subst (λ l. Contains l x) e h)) [
      | inl old ↦ elim (w.ahead x old) [ inl is ↦ inl is | inr far ↦ inr (far.0, far.1, omega (arith, far.2)) ]
      | inr same ↦ inr (distance, ap (distance_of r.distances.items) (sym same) ∙ w.at, less)
    ];
    at = at;
  }

  pub way_within : (cycle : List ℕ) (class distance : ℕ) → IsWay before r cycle class distance → class < length before
  way_within cycle class distance w = reached_within before r all.reached class (distance, w.at)

  closed : (cycle : List ℕ) → slice_index cycle 0 ≡ r.target → 0 < length cycle → AllPairs ◌≢◌ cycle →
      LeadTo (InTable before) r.target cycle → IsCycle (InTable before) cycle
  closed [] f h d l = absurd (omega arith)
  closed (c ∷ rest) f h d l = (d, subst (λ x. LeadTo (InTable before) x (c ∷ rest)) (sym f) l)

  pub way_closes : (cycle : List ℕ) (class distance : ℕ) → IsWay before r cycle class distance → distance ≤ 0 →
      IsCycle (InTable before) cycle
  way_closes cycle class distance w none =
      elim (all.reached.nearer class distance w.at) [
        | inl is ↦ closed cycle w.first w.some w.distinct (subst (λ x. LeadTo (InTable before) x cycle) is w.lead)
        | inr n ↦ absurd (omega (arith, n.4, none))
      ]

  leads_there : {c d : ℕ} → Plus (InTable before) c d → d ≡ r.target → HasDistance r.distances.items c
  leads_there {c} {d} (one e) is = all.all d (0, ap (distance_of r.distances.items) is ∙ all.reached.target) c e
  leads_there {c} (further {q} e p) is = all.all q (leads_there p is) c e

  first_step : {c d : ℕ} → Plus (InTable before) c d → d ≡ r.target →
      (e : ℕ) × InTable before c e × HasDistance r.distances.items e
  first_step {c} {d} (one e) is = (d, e, (0, ap (distance_of r.distances.items) is ∙ all.reached.target))
  first_step {c} (further {q} e p) is = (q, e, leads_there p is)

  pub on_no_cycle : IsNearestBelow before r.distances.items r.target (length before) None →
      IsOnCycle before r.target → ⊥
  on_no_cycle h p = let s = first_step p refl in h s.0 s.2.0 (reached_within before r all.reached s.0 s.2) s.1 s.2.1
