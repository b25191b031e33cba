-- The locks that are unlocked at the end are those for which the notes stand.
use Rattle.std.proofs.Common.{◌≡◌, ◌≢◌, ◌⊎◌, ◌<◌, ℕ, zero, suc, List, [], ◌∷◌, ◌++◌, length, Option, Some, None}
use Rattle.std.proofs.Common.{slice_get, refl, sym, subst, arith, inl, inr}
use Rattle.std.specs.List.{AllPairs, Contains, flat_map}
use Rattle.std.specs.Option.{option_map_or}
use Rattle.std.proofs.lemmas.Bool.{cases_lt}
use Rattle.std.proofs.lemmas.Option.{slice_get_within}
use Rattle.std.proofs.lemmas.List.Elements.{Contains-append_left, Contains-append_right, Contains-append_cases}
use Rattle.std.proofs.lemmas.List.Kept.{AllPairs-cons}
use Rattle.core_lang.specs.declared.shape.Shape.{Shape}
use Rattle.core_lang.specs.declared.tree.Section.{Section}
use Rattle.core_lang.specs.declared.typed.Typed.{Typed}
use Rattle.core_lang.specs.WellFormed.{IsWellFormed}
use Rattle.core_lang.specs.Theory.Items.{in_first, in_rest, not_in_none, all_from, distinct_first}
use Rattle.locks.specs.declared.lock.Lock.{Lock}
use Rattle.locks.specs.declared.path.Root.{Root}
use Rattle.locks.specs.declared.path.Root.TheVariants.{GlobalLock, WholeClass, Local as AtLocal}
use Rattle.locks.specs.LockPaths.{LockPath, lock_paths}
use Rattle.c_threads.specs.Locking.{Pointer, stood_by, had, noted_at, gives, unlocks}
use Rattle.c_threads.specs.LockClaims.{EndsGiveBackWhatIsHeld}
use Rattle.c_threads.proofs.Members.{PoolsRise, class_apart}

distinct_rest : (l : Lock) (ls : List Lock) → AllPairs ◌≢◌ (l ∷ ls) → AllPairs ◌≢◌ ls
distinct_rest l ls pairs i j d less within = pairs (suc i) (suc j) d (omega (arith, less)) (omega (arith, within))

-- lists without repetition that have nothing in common
both_apart : (xs ys : List Lock) → AllPairs ◌≢◌ xs → AllPairs ◌≢◌ ys →
    ((l : Lock) → Contains xs l → Contains ys l → ⊥) → AllPairs ◌≢◌ (xs ++ ys)
both_apart [] ys hx hy cross = hy
both_apart (x ∷ xs) ys hx hy cross =
    AllPairs-cons ◌≢◌ x (xs ++ ys) (all_from (λ z. x ≢ z) (xs ++ ys) (λ z c same. elim (Contains-append_cases xs ys z c) [
      | inl d ↦ distinct_first x xs hx (subst (Contains xs) (sym same) d)
      | inr d ↦ cross x (in_first x xs) (subst (Contains ys) (sym same) d)
    ]))
    (both_apart xs ys (distinct_rest x xs hx) hy (λ l c d. cross l (in_rest x l xs c) d))

nothing_apart : AllPairs {X = Lock} ◌≢◌ []
nothing_apart = λ i j d less within. absurd (omega (arith, within))

one_apart : (lock : Lock) → AllPairs ◌≢◌ (lock ∷ [])
one_apart lock = λ i j d less within. absurd (omega (arith, less, within))

-- a note stands for no lock twice
stood_apart : (shape : Shape) (root : Root) (class : ℕ) (lock : Lock) → PoolsRise shape →
    AllPairs ◌≢◌ (stood_by shape root class lock)
stood_apart shape GlobalLock class lock rise = one_apart lock
stood_apart shape (WholeClass s) class lock rise = class_apart shape class s rise
stood_apart shape (AtLocal k) class lock rise = one_apart lock

module _ (program : Typed) (section : Section) (notes : List Pointer) where
  abbrev paths : List LockPath
  paths = lock_paths program section

  abbrev at : ℕ → List Lock
  at k = noted_at program section notes k

  -- for the given number of first paths
  abbrev given : ℕ → List Lock
  given n = flat_map (gives program section notes) (unlocks n)

  record IsNoted (n : ℕ) (lock : Lock) : Type 0 where
    number : ℕ
    below : number < n
    here : Contains (at number) lock

  from_given : (n : ℕ) (lock : Lock) → Contains (given n) lock → IsNoted n lock
  from_given zero lock c = absurd (not_in_none lock c)
  from_given (suc n) lock c = elim (Contains-append_cases (at n) (given n) lock c) [
    | inl d ↦ record { number = n; below = omega arith; here = d }
    | inr d ↦ (let r = from_given n lock d in let less = r.below in record { number = r.number; below = omega (arith, less); here = r.here })
  ]

  to_given : (n k : ℕ) (lock : Lock) → k < n → Contains (at k) lock → Contains (given n) lock
  to_given zero k lock less c = absurd (omega (arith, less))
  to_given (suc n) k lock less c = elim (last k n less) [
    | inl same ↦ Contains-append_left (at n) (given n) lock (subst (λ i. Contains (at i) lock) same c)
    | inr below ↦ Contains-append_right (at n) (given n) lock (to_given n k lock below c)
  ] where
    last : (k n : ℕ) → k < suc n → (k ≡ n) ⊎ (k < n)
    last k n less = elim (cases_lt k n) [ inl below ↦ inr below | inr above ↦ inl (omega (arith, less, above)) ]

  -- notes are of paths of the section
  within : (k : ℕ) (lock : Lock) → Contains (at k) lock → k < length paths
  within k lock c = by (slice_get paths k) refl (slice_get notes k) c where
    by : (o : Option LockPath) → slice_get paths k ≡ o → (p : Option Pointer) →
        Contains (had (λ l. option_map_or (λ (path : LockPath). stood_by program.shape path.root path.class l) o []) p) lock →
        k < length paths
    by (Some path) e p c = slice_get_within paths k path e
    by None e None c = absurd (not_in_none lock c)
    by None e (Some None) c = absurd (not_in_none lock c)
    by None e (Some (Some l)) c = absurd (not_in_none lock c)

  module _ (rise : PoolsRise program.shape) where
    at_apart : (k : ℕ) → AllPairs ◌≢◌ (at k)
    at_apart k = by (slice_get paths k) (slice_get notes k) where
      by : (o : Option LockPath) (p : Option Pointer) →
          AllPairs ◌≢◌ (had (λ l. option_map_or (λ (path : LockPath). stood_by program.shape path.root path.class l) o []) p)
      by o None = nothing_apart
      by o (Some None) = nothing_apart
      by None (Some (Some l)) = nothing_apart
      by (Some path) (Some (Some l)) = stood_apart program.shape path.root path.class l rise

    module _ (once : (j k : ℕ) (lock : Lock) → Contains (at j) lock → Contains (at k) lock → j ≡ k) where
      all_apart : (n : ℕ) → AllPairs ◌≢◌ (given n)
      all_apart zero = nothing_apart
      all_apart (suc n) =
          both_apart (at n) (given n) (at_apart n) (all_apart n) (λ l c d.
          (let r = from_given n l d in
          let below = r.below in
          let twice : r.number ≡ n = once r.number n l r.here c in
          omega (arith, below, twice)))

-- a well-formed program's pools rise
abbrev pub WellFormedRise : Type 0
WellFormedRise = (program : Typed) → IsWellFormed program → PoolsRise program.shape

pub ends_give_back : WellFormedRise → EndsGiveBackWhatIsHeld
ends_give_back rise program section notes held well are = record {
  exactly = λ lock. (
    λ c. (let r = from_given program section notes (length (lock_paths program section)) lock c in are.only r.number lock r.here),
    λ c. (let r = are.noted lock c in
        to_given program section notes (length (lock_paths program section)) r.0 lock (within program section notes r.0 lock r.1) r.1),
  );
  once = all_apart program section notes (rise program well) are.once (length (lock_paths program section));
}
