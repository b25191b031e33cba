-- Each lock once, and the cells of a lock. Nobody has to believe this: it is proved here, for proofs of this crate and
-- of those above.
use Rattle.std.proofs.Common.{◌≡◌, ◌≢◌, ℕ, zero, suc, ◌+◌, ◌<◌, Bool, true, false, if◌then◌else◌, List, [], ◌∷◌, ◌++◌}
use Rattle.std.proofs.Common.{length, get_or, Some, ◌⊎◌, inl, inr, refl, sym, ap, ◌∙◌, subst, arith}
use Rattle.std.specs.Prelude.{slice_get}
use Rattle.std.specs.List.{Contains}
use Rattle.std.proofs.lemmas.List.{append-nil}
use Rattle.std.proofs.lemmas.Option.{none-some}
use Rattle.core_lang.specs.Theory.Items.{at_contained, contains_at, pushed_at}
use Rattle.locks.specs.declared.lock.Lock.{Lock}
use Rattle.locks.specs.Locks.{same_lock}
use Rattle.locks.specs.Theory.Order.{same_itself, lock_cases}
use Rattle.layout.specs.LockCells.{cells_from, cells_of}
use Rattle.layout.specs.Layouts.{AreDistinct}

-- ---- each lock once

pub distinct_none : AreDistinct []
distinct_none i j lock a b = absurd (none-some lock a)

pub distinct_rest : (l : Lock) (ls : List Lock) → AreDistinct (l ∷ ls) → AreDistinct ls
distinct_rest l ls d i j lock a b = let e : suc i ≡ suc j = d (suc i) (suc j) lock a b in omega (arith, e)

pub distinct_first : (l : Lock) (ls : List Lock) → AreDistinct (l ∷ ls) → Contains ls l → ⊥
distinct_first l ls d c =
    let at = at_contained ls l c in
    let bad : 0 ≡ suc at.0 = d 0 (suc at.0) l refl at.1 in absurd (omega (arith, bad))

pub distinct_push : (ls : List Lock) (l : Lock) → AreDistinct ls → (Contains ls l → ⊥) → AreDistinct (ls ++ l ∷ [])
distinct_push ls l d new i j lock a b = elim (pushed_at ls l i lock a) [
  | inl p ↦ elim (pushed_at ls l j lock b) [
    | inl q ↦ d i j lock p q
    | inr q ↦ absurd (new (contains_at ls i l (p ∙ ap Some (sym q.1))))
  ]
  | inr p ↦ elim (pushed_at ls l j lock b) [
    | inl q ↦ absurd (new (contains_at ls j l (q ∙ ap Some (sym p.1))))
    | inr q ↦ p.0 ∙ sym q.0
  ]
]

-- ---- the cells of a lock

in_front : (b : Bool) (k : ℕ) (a c d : List ℕ) → a ≡ c ++ d → (if b then k ∷ a else a) ≡ (if b then k ∷ c else c) ++ d
in_front true k a c d e = ap (λ xs. k ∷ xs) e
in_front false k a c d e = e

pub cells_push_from : (k : ℕ) (ls : List Lock) (l lock : Lock) →
    cells_from k (ls ++ l ∷ []) lock ≡ cells_from k ls lock ++ (if same_lock l lock then (k + length ls) ∷ [] else [])
cells_push_from k [] l lock = ap (λ (n : ℕ). if same_lock l lock then n ∷ [] else []) (let e : k ≡ k + 0 = omega arith in e)
cells_push_from k (x ∷ xs) l lock =
    let more = cells_push_from (k + 1) xs l lock in
    let sum : (k + 1) + length xs ≡ k + length (x ∷ xs) = omega arith in
    in_front (same_lock x lock) k (cells_from (k + 1) (xs ++ l ∷ []) lock) (cells_from (k + 1) xs lock) (if same_lock l lock then (k + length (x ∷ xs)) ∷ [] else [])
    (more ∙ ap (λ (n : ℕ). cells_from (k + 1) xs lock ++ (if same_lock l lock then n ∷ [] else [])) sum)

-- one more cell, of this lock or of another
pub own_cell : (ls : List Lock) (lock : Lock) → cells_of (ls ++ lock ∷ []) lock ≡ cells_of ls lock ++ length ls ∷ []
own_cell ls lock =
    cells_push_from 0 ls lock lock ∙ ap (λ (b : Bool). cells_of ls lock ++ (if b then (0 + length ls) ∷ [] else [])) (same_itself lock)
    ∙ ap (λ (n : ℕ). cells_of ls lock ++ n ∷ []) (let e : 0 + length ls ≡ length ls = omega arith in e)

pub other_cell : (ls : List Lock) (l lock : Lock) → l ≢ lock → cells_of (ls ++ l ∷ []) lock ≡ cells_of ls lock
other_cell ls l lock ne = elim (lock_cases l lock) [
  | inl same ↦ absurd (ne same.1)
  | inr other ↦ cells_push_from 0 ls l lock ∙ ap (λ (b : Bool). cells_of ls lock ++ (if b then (0 + length ls) ∷ [] else [])) other.0 ∙ append-nil (cells_of ls lock)
]

first_or_later : (k : ℕ) (l : Lock) (ls : List Lock) (lock : Lock) (cell j : ℕ) (xs : List ℕ) → j < length (k ∷ xs) →
    get_or (k ∷ xs) j cell ≡ cell → l ≡ lock →
    (Contains xs cell → (i : ℕ) × (cell ≡ (k + 1) + i) × (slice_get ls i ≡ Some lock)) → (i : ℕ) × (cell ≡ k + i) × (slice_get (l ∷ ls) i ≡ Some lock)
first_or_later k l ls lock cell zero xs lt e same go = (0, omega (arith, e), ap Some same)
first_or_later k l ls lock cell (suc j) xs lt e same go = let r = go (j, omega (arith, lt), e) in (suc r.0, omega (arith, r.1), r.2)

pub cell_is_of : (k : ℕ) (ls : List Lock) (lock : Lock) (cell : ℕ) → Contains (cells_from k ls lock) cell →
    (i : ℕ) × (cell ≡ k + i) × (slice_get ls i ≡ Some lock)
cell_is_of k [] lock cell c = absurd (omega (arith, c.1))
cell_is_of k (l ∷ ls) lock cell c = elim (lock_cases l lock) [
  | inl same ↦ (
      let there : Contains (k ∷ cells_from (k + 1) ls lock) cell = subst (λ (b : Bool). Contains (if b then k ∷ cells_from (k + 1) ls lock else cells_from (k + 1) ls lock) cell) same.0 c in
      first_or_later k l ls lock cell there.0 (cells_from (k + 1) ls lock) there.1 there.2 same.1 (λ more. cell_is_of (k + 1) ls lock cell more))
  | inr other ↦ (
      let r = cell_is_of (k + 1) ls lock cell (subst (λ (b : Bool). Contains (if b then k ∷ cells_from (k + 1) ls lock else cells_from (k + 1) ls lock) cell) other.0 c) in
      (suc r.0, omega (arith, r.1), r.2))
]

contains_front : (b : Bool) (k cell : ℕ) (xs : List ℕ) → Contains xs cell → Contains (if b then k ∷ xs else xs) cell
contains_front true k cell xs c = (suc c.0, omega (arith, c.1), c.2)
contains_front false k cell xs c = c

pub cell_is_among : (k : ℕ) (ls : List Lock) (lock : Lock) (i : ℕ) → slice_get ls i ≡ Some lock →
    Contains (cells_from k ls lock) (k + i)
cell_is_among k [] lock i e = absurd (none-some lock e)
cell_is_among k (l ∷ ls) lock zero e =
    let same : l ≡ lock = cc in
    let t : same_lock l lock ≡ true = ap (λ (x : Lock). same_lock l x) (sym same) ∙ same_itself l in
    let sum : k ≡ k + 0 = omega arith in
    subst (λ (b : Bool). Contains (if b then k ∷ cells_from (k + 1) ls lock else cells_from (k + 1) ls lock) (k + 0)) (sym t) (0, omega arith, sum)
cell_is_among k (l ∷ ls) lock (suc i) e =
    let sum : (k + 1) + i ≡ k + suc i = omega arith in
    contains_front (same_lock l lock) k (k + suc i) (cells_from (k + 1) ls lock) (subst (λ (n : ℕ). Contains (cells_from (k + 1) ls lock) n) sum (cell_is_among (k + 1) ls lock i e))

-- a cell of the lock is among the lock's cells, and each of these has the lock
pub cell_among : (cell_locks : List Lock) (lock : Lock) (cell : ℕ) → slice_get cell_locks cell ≡ Some lock →
    Contains (cells_of cell_locks lock) cell
cell_among cell_locks lock cell e =
    let sum : 0 + cell ≡ cell = omega arith in
    subst (λ (n : ℕ). Contains (cells_of cell_locks lock) n) sum (cell_is_among 0 cell_locks lock cell e)

pub has_lock : (cell_locks : List Lock) (lock : Lock) (cell : ℕ) → Contains (cells_of cell_locks lock) cell →
    slice_get cell_locks cell ≡ Some lock
has_lock cell_locks lock cell c =
    let r = cell_is_of 0 cell_locks lock cell c in
    let e : cell ≡ r.0 = omega (arith, r.1) in
    ap (slice_get cell_locks) e ∙ r.2
