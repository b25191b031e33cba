-- The bindings of a section, path by path and point by point.
use Rattle.std.proofs.Common.{◌≡◌, ℕ, ◌+◌, ◌<◌, ◌≤◌, Bool, ◌||◌, ◌&&◌, List, [], ◌∷◌, ◌++◌, length, get_or, Some, inl, inr}
use Rattle.std.proofs.Common.{sym, ap, ◌∙◌, subst, arith}
use Rattle.std.specs.Prelude.{slice_get}
use Rattle.std.specs.Bool.{Decides}
use Rattle.std.specs.List.{All, AllPairs, Contains}
use Rattle.std.proofs.lemmas.Bool.{or_left, or_right, and_parts, and_from, cases_lt}
use Rattle.std.proofs.lemmas.Option.{slice_get_within, slice_get-get_or, get_or_from_slice_get}
use Rattle.std.proofs.lemmas.List.{get_or_read}
use Rattle.std.proofs.lemmas.List.Elements.{All-push, All-weaker, Contains-append_left, Contains-push}
use Rattle.std.proofs.lemmas.List.Quantifiers.{all_pairs_push}
use Rattle.flow.specs.Flow.{Before}
use Rattle.flow.specs.Working.Parts.{skeleton_of}
use Rattle.locks.specs.declared.path_set.PathSet.{PathSet}
use Rattle.locks.specs.Sets.{has}
use Rattle.points.specs.declared.table.Points.{Points}
use Rattle.points.specs.Working.Points.{AreBoundLater}
use Rattle.lockorder.specs.Working.Sections.{IsIn, Share, set_at, no_paths, IsOfClass, BindsBehind, IsBindingFor, AreBoundOnce}
use Rattle.lockorder.specs.Working.Sections.{HasAnyBehind, AreListedBindings, IsFirstBehind, IsNotBehind}
use Rattle.lockorder.proofs.InSection.{set_within, shared_class, class_shared}

-- ---- roots that are bound later

module _ (x : Points) (later : List PathSet) (are : AreBoundLater x later) (p : ℕ) (lt : p < length x.bound.items) where
  there : slice_get later p ≡ Some (set_at later p)
  there = slice_get-get_or later p no_paths (omega (arith, lt, are.0))

  pub later_bound : (i : ℕ) → IsIn (set_at later p) i →
      (q : ℕ) × Before (skeleton_of x.parts.items) p q × IsIn (set_at x.bound.items q) i
  later_bound i h =
      let b = (are.1 p i (set_at later p) there).0 h in
      let same : b.1 ≡ set_at x.bound.items b.0 = sym (get_or_from_slice_get x.bound.items b.0 b.1 no_paths b.3) in
      (b.0, b.2, subst (λ (s : PathSet). IsIn s i) same b.4)

  pub bound_later : (q i : ℕ) → Before (skeleton_of x.parts.items) p q → IsIn (set_at x.bound.items q) i → IsIn (set_at later p) i
  bound_later q i before h =
      (are.1 p i (set_at later p) there).1 (q, set_at x.bound.items q, before, slice_get-get_or x.bound.items q no_paths (set_within x.bound.items q i h), h)

  -- the union of the paths that are bound later and of those that the point itself binds
  pub any_behind : (here both : PathSet) → here ≡ set_at x.bound.items p →
      ((i : ℕ) → has both i ≡ (has here i || has (set_at later p) i)) → HasAnyBehind x p both
  any_behind here both same union d bound (inl e, h) =
      (h.0, union h.0 ∙ or_left (has here h.0) (has (set_at later p) h.0) (subst (λ (s : PathSet). IsIn s h.0) (sym same) (subst (λ q. IsIn (set_at x.bound.items q) h.0) (sym e) h.1)), h.2)
  any_behind here both same union d bound (inr before, h) =
      (h.0, union h.0 ∙ or_right (has here h.0) (has (set_at later p) h.0) (bound_later bound h.0 before h.1), h.2)

  -- ---- whether a binding is one for these roots

  module _ (roots : PathSet) (paths : (i : ℕ) → IsIn roots i → i < length x.classes.items) (bound : ℕ) where
    pub for_here : p ≡ bound → (b : Bool) → Decides b (Share (set_at x.bound.items bound) roots) → Decides b (IsBindingFor x roots p bound)
    for_here e b d = (λ h. (d.0 h, inl e), λ h. d.1 h.0)

    pub for_later : AreBoundOnce x → (p ≡ bound → ⊥) → (b : Bool) (of : PathSet) → ((i : ℕ) → has of i ≡ (has (set_at x.bound.items bound) i && has roots i)) →
        Decides b (Share of (set_at later p)) → Decides b (IsBindingFor x roots p bound)
    for_later once ne b of meet d = (
      λ h.
          let s = d.0 h in
          let both = and_parts (has (set_at x.bound.items bound) s.0) (has roots s.0) (sym (meet s.0) ∙ s.1) in
          let q = later_bound s.0 s.2 in
          let same : q.0 ≡ bound = once s.0 q.0 bound (paths s.0 both.1) q.2 both.0 in
          ((s.0, both.0, both.1), inr (subst (Before (skeleton_of x.parts.items) p) same q.1)),
      λ h. elim h.1 [
        | inl e ↦ absurd (ne e)
        | inr before ↦
            let i = h.0.0 in
            d.1 (i, meet i ∙ and_from (has (set_at x.bound.items bound) i) (has roots i) h.0.1 h.0.2, bound_later bound i before h.0.1)
      ],
    )

-- a binding for the roots of a class
module _ (x : Points) (class : ℕ) (roots : PathSet) (of : (i : ℕ) → Decides (has roots i) (IsOfClass x class i)) (p : ℕ) where
  pub for_behind : (bound : ℕ) → IsBindingFor x roots p bound → BindsBehind x p class bound
  for_behind bound h = (h.1, shared_class x (set_at x.bound.items bound) roots class of h.0)

  pub behind_for : (bound : ℕ) → BindsBehind x p class bound → IsBindingFor x roots p bound
  behind_for bound h = (class_shared x (set_at x.bound.items bound) roots class of h.1, h.0)

  pub roots_within : (i : ℕ) → IsIn roots i → i < length x.classes.items
  roots_within i h = slice_get_within x.classes.items i class ((of i).0 h)

  module _ (list : List ℕ) (are : AreListedBindings x list) where
    -- the binding point of this number is not one for these roots
    abbrev pub IsNotFor : ℕ → Type 0
    IsNotFor j = IsBindingFor x roots p (get_or list j 0) → ⊥

    pub first_found : (k bound : ℕ) → k < length list → bound ≡ get_or list k bound →
        ((j : ℕ) → j < k → IsNotFor j) → IsBindingFor x roots p bound → IsFirstBehind x p class bound
    first_found k bound lt is none here = (
      for_behind bound here,
      λ b h.
          let c = are.all b h.1.0 h.1.1 in
          let at : b ≡ get_or list c.0 0 = get_or_read list c.0 b c.1 (sym c.2) 0 in
          let there : bound ≡ get_or list k 0 = get_or_read list k bound lt is 0 in
          elim (cases_lt c.0 k) [
            | inl less ↦ absurd (none c.0 less (subst (IsBindingFor x roots p) at (behind_for b h)))
            | inr ge ↦ elim (cases_lt k c.0) [
              | inl more ↦ omega (arith, at, there, are.rising k c.0 0 more c.1)
              | inr le ↦
                  let same : c.0 ≡ k = omega (arith, ge, le) in
                  let e : b ≡ bound = at ∙ ap (λ n. get_or list n 0) same ∙ sym there in
                  omega (arith, e)
            ]
          ],
    )

    pub none_found : (n : ℕ) → length list ≤ n → ((j : ℕ) → j < n → IsNotFor j) → IsNotBehind x p class
    none_found n all none =
        λ b h.
        let c = are.all b h.1.0 h.1.1 in
        none c.0 (omega (arith, all, c.1)) (subst (IsBindingFor x roots p) (get_or_read list c.0 b c.1 (sym c.2) 0) (behind_for b h))

    pub none_more : (k bound : ℕ) → k < length list → bound ≡ get_or list k bound → ((j : ℕ) → j < k → IsNotFor j) →
        (IsBindingFor x roots p bound → ⊥) → (j : ℕ) → j < k + 1 → IsNotFor j
    none_more k bound lt is none here j less h = elim (cases_lt j k) [
      | inl before ↦ none j before h
      | inr ge ↦
          let e : j ≡ k = omega (arith, ge, less) in
          let there : bound ≡ get_or list k 0 = get_or_read list k bound lt is 0 in
          here (subst (IsBindingFor x roots p) (ap (λ n. get_or list n 0) e ∙ sym there) h)
    ]

-- ---- the list of binding points

-- the binding points among the points below `n`
pub record AreListedBelow (x : Points) (n : ℕ) (list : List ℕ) : Type 0 where
  pub within : All (λ p. p < n) list
  pub rising : AllPairs ◌<◌ list
  pub all : (p i : ℕ) → p < n → IsIn (set_at x.bound.items p) i → Contains list p

pub none_listed : (x : Points) → AreListedBelow x 0 []
none_listed x = record {
  within = λ k d lt. absurd (omega (arith, lt));
  rising = λ i j d lt within. absurd (omega (arith, within));
  all = λ p i lt h. absurd (omega (arith, lt));
}

module _ (x : Points) (n : ℕ) (list : List ℕ) (are : AreListedBelow x n list) where
  pub point_listed : (new : List ℕ) → new ≡ list ++ n ∷ [] → AreListedBelow x (n + 1) new
  point_listed new e = subst (AreListedBelow x (n + 1)) (sym e) (record {
    within = All-push (λ p. p < n + 1) list n (All-weaker (λ p. p < n) (λ p. p < n + 1) (λ p lt. omega (arith, lt)) list are.within) (omega arith);
    rising = all_pairs_push ◌<◌ list n are.rising (λ k d lt. are.within k d lt);
    all = λ p i lt h. elim (cases_lt p n) [
      | inl less ↦ Contains-append_left list (n ∷ []) p (are.all p i less h)
      | inr ge ↦ let e : p ≡ n = omega (arith, ge, lt) in subst (Contains (list ++ n ∷ [])) (sym e) (Contains-push list n)
    ];
  })

  pub point_skipped : (new : List ℕ) → new ≡ list → ((i : ℕ) → IsIn (set_at x.bound.items n) i → ⊥) → AreListedBelow x (n + 1) new
  point_skipped new e none = subst (AreListedBelow x (n + 1)) (sym e) (record {
    within = All-weaker (λ p. p < n) (λ p. p < n + 1) (λ p lt. omega (arith, lt)) list are.within;
    rising = are.rising;
    all = λ p i lt h. elim (cases_lt p n) [
      | inl less ↦ are.all p i less h
      | inr ge ↦ let e : p ≡ n = omega (arith, ge, lt) in absurd (none i (subst (λ q. IsIn (set_at x.bound.items q) i) e h))
    ];
  })

  pub all_listed : length x.bound.items ≡ n → AreListedBindings x list
  all_listed e = record {
    within = subst (λ m. All (λ p. p < m) list) (sym e) are.within;
    rising = are.rising;
    all = λ p i h. are.all p i (omega (arith, e, set_within x.bound.items p i h)) h;
  }
