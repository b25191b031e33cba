-- Sets of paths and of classes, path by path and point by point.
use Rattle.std.proofs.Common.{◌≡◌, ℕ, ◌+◌, ◌<◌, Bool, true, false, ◌||◌, List, length, get_or, Some, ◌⊎◌, inl, inr}
use Rattle.std.proofs.Common.{refl, sym, ap, ◌∙◌, subst, arith}
use Rattle.std.specs.Prelude.{◌==◌}
use Rattle.std.specs.Bool.{Decides}
use Rattle.std.specs.Int.{bit_at}
use Rattle.std.proofs.lemmas.Bool.{or_cases, or_left, or_right, both_ways, cases_lt, eqb-true, eq-eqb}
use Rattle.std.proofs.lemmas.Option.{slice_get_read}
use Rattle.std.proofs.lemmas.List.{get_or_past, get_or_read}
use Rattle.std.proofs.lemmas.Nat.Bits.{bit_at-zero}
use Rattle.locks.specs.declared.path_set.PathSet.{PathSet}
use Rattle.locks.specs.Sets.{has}
use Rattle.points.specs.declared.table.Points.{Points}
use Rattle.lockorder.specs.Working.Sections.{IsIn, Share, no_paths, set_at, IsOfClass, HasClass, UsesSoFar}

-- ---- a property of some number below a bound

abbrev pub Below : (ℕ → Type 0) → ℕ → Type 0
Below P n = (i : ℕ) × (i < n) × P i

module _ (P : ℕ → Type 0) (n : ℕ) where
  pub below_more : Below P n → Below P (n + 1)
  below_more h = (h.0, omega (arith, h.1), h.2)

  pub below_here : P n → Below P (n + 1)
  below_here p = (n, omega arith, p)

  pub below_cases : Below P (n + 1) → Below P n ⊎ P n
  below_cases h = elim (cases_lt h.0 n) [ inl less ↦ inl (h.0, less, h.2) | inr ge ↦ let at : h.0 ≡ n = omega (arith, h.1) in inr (subst P at h.2) ]

-- ---- a test joined with another one

module _ (P : ℕ → Type 0) (n : ℕ) (Q : Type 0) (old new t : Bool) where
  -- a property that held before, or holds of some number below `n`
  pub joined : Decides old (Q ⊎ Below P n) → new ≡ (old || t) → Decides t (P n) → Decides new (Q ⊎ Below P (n + 1))
  joined d e here = (
    λ h. elim (or_cases old t (sym e ∙ h)) [
      | inl o ↦ elim (d.0 o) [ inl q ↦ inl q | inr b ↦ inr (below_more P n b) ]
      | inr s ↦ inr (below_here P n (here.0 s))
    ],
    λ h. e ∙ elim h [
      | inl q ↦ or_left old t (d.1 (inl q))
      | inr b ↦ elim (below_cases P n b) [ inl less ↦ or_left old t (d.1 (inr less)) | inr at ↦ or_right old t (here.1 at) ]
    ],
  )

  pub not_joined : Decides old (Q ⊎ Below P n) → new ≡ old → (P n → ⊥) → Decides new (Q ⊎ Below P (n + 1))
  not_joined d e none = (
    λ h. elim (d.0 (sym e ∙ h)) [ inl q ↦ inl q | inr b ↦ inr (below_more P n b) ],
    λ h. e ∙ elim h [
      | inl q ↦ d.1 (inl q)
      | inr b ↦ elim (below_cases P n b) [ inl less ↦ d.1 (inr less) | inr at ↦ absurd (none at) ]
    ],
  )

-- the same for a test that succeeds if it did before, or if the next number has the property
pub joined_by : (P : ℕ → Type 0) (n : ℕ) (Q R : Type 0) (old new : Bool) → Decides old (Q ⊎ Below P n) →
    Decides new ((old ≡ true) ⊎ R) → (R → P n) → (P n → R) →
    Decides new (Q ⊎ Below P (n + 1))
joined_by P n Q R old new d e to from = (
  λ h. elim (e.0 h) [
    | inl o ↦ elim (d.0 o) [ inl q ↦ inl q | inr b ↦ inr (below_more P n b) ]
    | inr r ↦ inr (below_here P n (to r))
  ],
  λ h. e.1 (elim h [
    | inl q ↦ inl (d.1 (inl q))
    | inr b ↦ elim (below_cases P n b) [ inl less ↦ inl (d.1 (inr less)) | inr at ↦ inr (from at) ]
  ]),
)

-- ---- sets at points

no_path : (i : ℕ) → has no_paths i ≡ false
no_path i = ap (λ x. x == 1) (bit_at-zero i)

-- a path in the set of a point is in a set of the list
pub set_within : (sets : List PathSet) (p i : ℕ) → IsIn (set_at sets p) i → p < length sets
set_within sets p i h =
    elim (cases_lt p (length sets)) [
      | inl lt ↦ lt
      | inr ge ↦ absurd (both_ways (has no_paths i) (no_path i) (ap (λ (s : PathSet). has s i) (sym (get_or_past sets p no_paths ge)) ∙ h))
    ]

pub set_read : (sets : List PathSet) (p : ℕ) (s : PathSet) → p < length sets → s ≡ get_or sets p s → s ≡ set_at sets p
set_read sets p s lt e = get_or_read sets p s lt e no_paths

pub class_read : (x : Points) (i c : ℕ) → i < length x.classes.items → c ≡ get_or x.classes.items i c → IsOfClass x c i
class_read x i c lt e = slice_get_read x.classes.items (length x.classes.items) i c refl lt e

pub one_class : (x : Points) (i c d : ℕ) → IsOfClass x c i → IsOfClass x d i → c ≡ d
one_class x i c d e f = let both : Some c ≡ Some d = sym e ∙ f in cc

-- the class of a path
pub class_decides : (x : Points) (i here c : ℕ) → IsOfClass x here i → Decides (c == here) (IsOfClass x c i)
class_decides x i here c e = (
  λ h. subst (λ d. IsOfClass x d i) (sym (eqb-true c here h)) e,
  λ h. eq-eqb c here (one_class x i c here h e),
)

-- a set shares a path with those of a class exactly if it has a path of the class
module _ (x : Points) (s paths : PathSet) (c : ℕ) (of : (i : ℕ) → Decides (has paths i) (IsOfClass x c i)) where
  pub shared_class : Share s paths → HasClass x s c
  shared_class h = (h.0, h.1, (of h.0).0 h.2)

  pub class_shared : HasClass x s c → Share s paths
  class_shared h = (h.0, h.1, (of h.0).1 h.2)

-- the union has the paths that are used so far
module _ (x : Points) (p c : ℕ) (s : PathSet) (union : (i : ℕ) → has s i ≡ (has (set_at x.used.items p) i || has (set_at x.used_before.items p) i)) where
  pub used_in_union : HasClass x s c → UsesSoFar x p c
  used_in_union h =
      elim (or_cases (has (set_at x.used.items p) h.0) (has (set_at x.used_before.items p) h.0) (sym (union h.0) ∙ h.1)) [
        | inl u ↦ inl (h.0, u, h.2)
        | inr b ↦ inr (h.0, b, h.2)
      ]

  pub union_has : UsesSoFar x p c → HasClass x s c
  union_has (inl h) = (h.0, union h.0 ∙ or_left (has (set_at x.used.items p) h.0) (has (set_at x.used_before.items p) h.0) h.1, h.2)
  union_has (inr h) = (h.0, union h.0 ∙ or_right (has (set_at x.used.items p) h.0) (has (set_at x.used_before.items p) h.0) h.1, h.2)

pub same_set : (x : Points) (s t : PathSet) (c : ℕ) → s ≡ t → HasClass x s c → HasClass x t c
same_set x s t c e h = subst (λ (u : PathSet). HasClass x u c) e h

pub same_bits : (s t : PathSet) (i : ℕ) → s.bits ≡ t.bits → IsIn s i → IsIn t i
same_bits s t i e h = let same : has s i ≡ has t i = ap (λ n. bit_at n i == 1) e in sym same ∙ h

-- no number up to this one has the property, if none before it and not this one has it
pub none_next : (P : ℕ → Type 0) (n : ℕ) → ((u : ℕ) → u < n → P u → ⊥) → (P n → ⊥) → (u : ℕ) → u < n + 1 → P u → ⊥
none_next P n none here u lt p = elim (cases_lt u n) [ inl less ↦ none u less p | inr ge ↦ let at : u ≡ n = omega arith in here (subst P at p) ]
