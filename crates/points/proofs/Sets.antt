-- Sets of paths for points, seen one path at a time.
use Rattle.std.specs.Prelude.{◌≡◌, ℕ, zero, suc, ◌+◌, ◌≤◌, ◌==◌, ◌||◌, ◌&&◌, nat_lt, Bool, true, false, List, [], ◌∷◌}
use Rattle.std.specs.Prelude.{◌++◌, replicate, reverse, slice_get, Some}
use Rattle.std.proofs.Common.{refl, sym, ap, ◌∙◌, arith, length, inl, inr}
use Rattle.std.proofs.lemmas.List.{map-append, get_or-map, get_or_past, length-map, reverse-append}
use Rattle.std.proofs.lemmas.Bool.{cases_lt, cases_eq, lt-ltb, le-ltb, eq-eqb, ne_eqb}
use Rattle.std.proofs.lemmas.Option.{get_or_from_slice_get, slice_get_within}
use Rattle.locks.specs.declared.path_set.PathSet.{PathSet}
use Rattle.locks.specs.Sets.{has}
use Rattle.points.specs.Working.Dataflow.{column, marks}

-- one set more
pub column-push : (i : ℕ) (was sets : List PathSet) (set : PathSet) → sets ≡ was ++ set ∷ [] →
    column i sets ≡ column i was ++ has set i ∷ []
column-push i was sets set e = ap (column i) e ∙ map-append (λ (s : PathSet). has s i) was (set ∷ [])

-- the same set repeated the given number of times
pub column-times : (i : ℕ) (n : ℕ) (set : PathSet) → column i (replicate n set) ≡ replicate n (has set i)
column-times i zero set = refl
column-times i (suc n) set = ap (λ l. has set i ∷ l) (column-times i n set)

pub column-more : (i : ℕ) (was sets : List PathSet) (n : ℕ) (set : PathSet) → sets ≡ was ++ replicate n set →
    column i sets ≡ column i was ++ replicate n (has set i)
column-more i was sets n set e =
    ap (column i) e ∙ map-append (λ (s : PathSet). has s i) was (replicate n set) ∙ ap (λ l. column i was ++ l) (column-times i n set)

pub column-reverse : (i : ℕ) (sets : List PathSet) → column i (reverse sets) ≡ reverse (column i sets)
column-reverse i [] = refl
column-reverse i (s ∷ ss) =
    ap (column i) (reverse-append (s ∷ []) ss) ∙ map-append (λ (s : PathSet). has s i) (reverse ss) (s ∷ [])
    ∙ ap (λ l. l ++ has s i ∷ []) (column-reverse i ss) ∙ sym (reverse-append (has s i ∷ []) (column i ss))

-- the set at a place
pub marks_at : (i : ℕ) (sets : List PathSet) (p : ℕ) (set : PathSet) → slice_get sets p ≡ Some set →
    marks i sets p ≡ has set i
marks_at i sets p set e =
    get_or-map (λ (s : PathSet). has s i) sets p set false (slice_get_within sets p set e)
    ∙ ap (λ s. has s i) (get_or_from_slice_get sets p set set e)

pub marks_past : (i : ℕ) (sets : List PathSet) (p : ℕ) → length sets ≤ p → marks i sets p ≡ false
marks_past i sets p h = get_or_past (column i sets) p false (omega (arith, h, length-map sets (λ (s : PathSet). has s i)))

-- ---- a set that is made path by path: it has those below n that pass a test

abbrev pub IsUpTo : (ℕ → Bool) → ℕ → PathSet → Type 0
IsUpTo test n set = (j : ℕ) → has set j ≡ (nat_lt j n && test j)

and_none : (b : Bool) → (b && false) ≡ false
and_none true = refl
and_none false = refl

or_none : (b : Bool) → (b || false) ≡ b
or_none true = refl
or_none false = refl

or_all : (b : Bool) → (b || true) ≡ true
or_all true = refl
or_all false = refl

beyond : (j n : ℕ) → n ≤ j → (j ≡ n → ⊥) → n + 1 ≤ j
beyond j n ge other = elim (cases_lt n j) [ inl lt ↦ omega (arith, lt) | inr le ↦ absurd (other (omega (arith, ge, le))) ]

same_below : (j n : ℕ) → (j ≡ n → ⊥) → nat_lt j n ≡ nat_lt j (n + 1)
same_below j n other =
    elim (cases_lt j n) [
      | inl lt ↦ lt-ltb j n lt ∙ sym (lt-ltb j (n + 1) (omega (arith, lt)))
      | inr ge ↦ le-ltb j n ge ∙ sym (le-ltb j (n + 1) (beyond j n ge other))
    ]

module _ (test : ℕ → Bool) where
  pub up_to_yes : (n : ℕ) (set more : PathSet) → IsUpTo test n set → ((j : ℕ) → has more j ≡ (has set j || j == n)) →
      test n ≡ true → IsUpTo test (n + 1) more
  up_to_yes n set more was added passes j =
      elim (cases_eq j n) [
        | inl same ↦
            added j ∙ ap (λ b. has set j || b) (eq-eqb j n same) ∙ or_all (has set j)
            ∙ sym (ap (λ b. b && test j) (lt-ltb j (n + 1) (omega (arith, same))) ∙ ap test same ∙ passes)
        | inr other ↦ added j ∙ ap (λ b. has set j || b) (ne_eqb j n other) ∙ or_none (has set j) ∙ was j ∙ ap (λ b. b && test j) (same_below j n other)
      ]

  pub up_to_no : (n : ℕ) (set : PathSet) → IsUpTo test n set → test n ≡ false → IsUpTo test (n + 1) set
  up_to_no n set was fails j =
      elim (cases_eq j n) [
        | inl same ↦ was j ∙ ap (λ b. nat_lt j n && b) (ap test same ∙ fails) ∙ and_none (nat_lt j n) ∙ sym (and_none (nat_lt j (n + 1))) ∙ sym (ap (λ b. nat_lt j (n + 1) && b) (ap test same ∙ fails))
        | inr other ↦ was j ∙ ap (λ b. b && test j) (same_below j n other)
      ]

  pub up_to_all : (n : ℕ) (set : PathSet) → IsUpTo test n set → ((j : ℕ) → n ≤ j → test j ≡ false) → (j : ℕ) →
      has set j ≡ test j
  up_to_all n set was none j =
      elim (cases_lt j n) [
        | inl lt ↦ was j ∙ ap (λ b. b && test j) (lt-ltb j n lt)
        | inr ge ↦ was j ∙ ap (λ b. b && test j) (le-ltb j n ge) ∙ sym (none j ge)
      ]
