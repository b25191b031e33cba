-- Places of lists, and locks among others.
use Rattle.std.proofs.Common.{◌≡◌, ◌≢◌, ◌⊎◌, ℕ, zero, suc, Bool, true, false, not, if◌then◌else◌, List, [], ◌∷◌, ◌++◌, Some}
use Rattle.std.proofs.Common.{slice_get, set, refl, sym, ap, ◌∙◌, inl, inr, true≢false}
use Rattle.std.proofs.lemmas.Bool.{cases_eq, cases_Bool, or_cases, or_left, or_right}
use Rattle.std.proofs.lemmas.Option.{none-some}
use Rattle.core_lang.specs.Theory.Items.{set_other}
use Rattle.locks.specs.declared.lock.Lock.{Lock}
use Rattle.locks.specs.Locks.{same_lock, among}
use Rattle.locks.specs.Theory.Order.{same_is, same_itself}
use Rattle.c_threads.specs.Threads.{ThreadInC, is_locked, without_lock}

-- ---- a place that is set

set_is : {X : Type 0} (xs : List X) (i : ℕ) (y z : X) → slice_get (set xs i y) i ≡ Some z → y ≡ z
set_is [] i y z h = absurd (none-some z h)
set_is (x ∷ xs) zero y z h = cc
set_is (x ∷ xs) (suc i) y z h = set_is xs i y z h

-- the item at a place: the one that was set there, or the former one
pub set_cases : {X : Type 0} (xs : List X) (i : ℕ) (y : X) (j : ℕ) (z : X) → slice_get (set xs i y) j ≡ Some z →
    ((i ≡ j) × (y ≡ z)) ⊎ ((i ≢ j) × (slice_get xs j ≡ Some z))
set_cases xs i y j z h = elim (cases_eq i j) [
  | inl e ↦ inl (e, set_is xs i y z (ap (slice_get (set xs i y)) e ∙ h))
  | inr ne ↦ inr (ne, sym (set_other xs i j y ne) ∙ h)
]

pub set_there : {X : Type 0} (xs : List X) (i : ℕ) (x y : X) → slice_get xs i ≡ Some x → slice_get (set xs i y) i ≡ Some y
set_there [] i x y h = absurd (none-some x h)
set_there (z ∷ xs) zero x y h = refl
set_there (z ∷ xs) (suc i) x y h = set_there xs i x y h

-- ---- locks among others

pub among_push : (xs : List Lock) (k l : Lock) → among (xs ++ k ∷ []) l ≡ true → (among xs l ≡ true) ⊎ (k ≡ l)
among_push [] k l h = elim (or_cases (same_lock k l) false h) [
  | inl e ↦ inr (same_is k l e)
  | inr e ↦ absurd (true≢false (sym e))
]
among_push (x ∷ xs) k l h = elim (or_cases (same_lock x l) (among (xs ++ k ∷ []) l) h) [
  | inl e ↦ inl (or_left (same_lock x l) (among xs l) e)
  | inr e ↦ elim (among_push xs k l e) [
    | inl q ↦ inl (or_right (same_lock x l) (among xs l) q)
    | inr q ↦ inr q
  ]
]

-- a lock that is taken out is no longer there, and each other one still is
pub without_cases : (xs : List Lock) (k l : Lock) → among (without_lock xs k) l ≡ true → (among xs l ≡ true) × (l ≢ k)
without_cases [] k l h = absurd (true≢false (sym h))
without_cases (x ∷ xs) k l h = by (same_lock x k) refl h (without_cases xs k l)
  where
    by : (b : Bool) → same_lock x k ≡ b → among (if not b then x ∷ without_lock xs k else without_lock xs k) l ≡ true →
        (among (without_lock xs k) l ≡ true → (among xs l ≡ true) × (l ≢ k)) → (among (x ∷ xs) l ≡ true) × (l ≢ k)
    by true e h rest = (let r = rest h in (or_right (same_lock x l) (among xs l) r.0, r.1))
    by false e h rest = elim (or_cases (same_lock x l) (among (without_lock xs k) l) h) [
      | inl s ↦ (
        or_left (same_lock x l) (among xs l) s,
        λ q. true≢false (sym (ap (same_lock x) (sym q) ∙ s) ∙ e),
      )
      | inr s ↦ (let r = rest s in (or_right (same_lock x l) (among xs l) r.0, r.1))
    ]

pub without_keeps : (xs : List Lock) (k l : Lock) → among xs l ≡ true → l ≢ k → among (without_lock xs k) l ≡ true
without_keeps [] k l h ne = h
without_keeps (x ∷ xs) k l h ne = by (same_lock x k) refl (λ s. without_keeps xs k l s ne)
  where
    by : (b : Bool) → same_lock x k ≡ b → (among xs l ≡ true → among (without_lock xs k) l ≡ true) →
        among (if not b then x ∷ without_lock xs k else without_lock xs k) l ≡ true
    by true e rest = elim (or_cases (same_lock x l) (among xs l) h) [
      | inl s ↦ absurd (ne (sym (same_is x l s) ∙ same_is x k e))
      | inr s ↦ rest s
    ]
    by false e rest = elim (or_cases (same_lock x l) (among xs l) h) [
      | inl s ↦ or_left (same_lock x l) (among (without_lock xs k) l) s
      | inr s ↦ or_right (same_lock x l) (among (without_lock xs k) l) (rest s)
    ]

pub none_among : (xs : List Lock) → ((l : Lock) → among xs l ≡ true → ⊥) → xs ≡ []
none_among [] h = refl
none_among (x ∷ xs) h = absurd (h x (or_left (same_lock x x) (among xs x) (same_itself x)))

-- ---- locks that threads have locked

pub locked_by : (xs : List ThreadInC) (t : ℕ) (x : ThreadInC) (lock : Lock) → slice_get xs t ≡ Some x → among x.locked lock ≡ true →
    is_locked xs lock ≡ true
locked_by [] t x lock at h = absurd (none-some x at)
locked_by (y ∷ xs) zero x lock at h =
    (let same : y ≡ x = cc at in or_left (among y.locked lock) (is_locked xs lock) (ap (λ (z : ThreadInC). among z.locked lock) same ∙ h))
locked_by (y ∷ xs) (suc t) x lock at h = or_right (among y.locked lock) (is_locked xs lock) (locked_by xs t x lock at h)

pub nobody_locked : (xs : List ThreadInC) (t : ℕ) (x : ThreadInC) (lock : Lock) → is_locked xs lock ≡ false → slice_get xs t ≡ Some x →
    among x.locked lock ≡ true → ⊥
nobody_locked xs t x lock free at h = true≢false (sym (locked_by xs t x lock at h) ∙ free)

pub none_locked : (xs : List ThreadInC) (lock : Lock) →
    ((t : ℕ) (x : ThreadInC) → slice_get xs t ≡ Some x → among x.locked lock ≡ true → ⊥) → is_locked xs lock ≡ false
none_locked [] lock h = refl
none_locked (y ∷ xs) lock h = elim (cases_Bool (is_locked (y ∷ xs) lock)) [
  | inl e ↦ elim (or_cases (among y.locked lock) (is_locked xs lock) e) [
    | inl s ↦ absurd (h 0 y refl s)
    | inr s ↦ absurd (true≢false (sym s ∙ none_locked xs lock (λ t x at m. h (suc t) x at m)))
  ]
  | inr e ↦ e
]
