-- Equality of locks, membership in lists of locks, and the order of locks. Nobody has to believe these facts: they are
-- proved here, for proofs of this crate and of those above.
use Rattle.std.proofs.Common.{◌≡◌, ◌≢◌, ◌⊎◌, ◌==◌, ◌&&◌, ◌<◌, ℕ, zero, suc, nat_lt, Bool, IsTrue, true, false, List}
use Rattle.std.proofs.Common.{[], ◌∷◌, refl, sym, ap, ◌∙◌, arith, inl, inr, true≢false}
use Rattle.std.specs.Prelude.{slice_index}
use Rattle.std.specs.List.{Contains}
use Rattle.std.proofs.lemmas.Bool.{cases_Bool, eq-eqb, eqb-true, lt-ltb, ltb-true, and_parts, and_from, or_cases}
use Rattle.std.proofs.lemmas.Bool.{or_left, or_right}
use Rattle.locks.specs.declared.lock.Lock.{Lock}
use Rattle.locks.specs.Locks.{same_lock, among}
use Rattle.locks.specs.Order.{Precedes}

-- ---- the same lock

pub same_itself : (a : Lock) → same_lock a a ≡ true
same_itself a = and_from (a.class == a.class) (a.object == a.object) (eq-eqb a.class a.class refl) (eq-eqb a.object a.object refl)

pub same_refl : (a b : Lock) → a ≡ b → same_lock a b ≡ true
same_refl a b e = sym (ap (same_lock a) e) ∙ same_itself a

pub same_is : (a b : Lock) → same_lock a b ≡ true → a ≡ b
same_is a b h =
    let parts = and_parts (a.class == b.class) (a.object == b.object) h in
    let class : a.class ≡ b.class = eqb-true a.class b.class parts.0 in
    let object : a.object ≡ b.object = eqb-true a.object b.object parts.1 in
    λ i. record { class = class i; object = object i }

pub other_than : (a b : Lock) → same_lock a b ≡ false → a ≢ b
other_than a b f same = true≢false (sym (same_refl a b same) ∙ f)

pub lock_cases : (a b : Lock) → ((same_lock a b ≡ true) × (a ≡ b)) ⊎ ((same_lock a b ≡ false) × (a ≢ b))
lock_cases a b = elim (cases_Bool (same_lock a b)) [ inl e ↦ inl (e, same_is a b e) | inr e ↦ inr (e, other_than a b e) ]

-- ---- among others

pub contains_among : (xs : List Lock) (l : Lock) → Contains xs l → among xs l ≡ true
contains_among [] l (k, less, e) = absurd (omega (arith, less))
contains_among (x ∷ xs) l (zero, less, e) = or_left (same_lock x l) (among xs l) (same_refl x l e)
contains_among (x ∷ xs) l (suc k, less, e) = or_right (same_lock x l) (among xs l) (contains_among xs l (k, omega (arith, less), e))

pub among_contains : (xs : List Lock) (l : Lock) → among xs l ≡ true → Contains xs l
among_contains [] l h = absurd (true≢false (sym h))
among_contains (x ∷ xs) l h = elim (or_cases (same_lock x l) (among xs l) h) [
  | inl e ↦ (0, omega arith, same_is x l e)
  | inr e ↦ (let c = among_contains xs l e in let less = c.1 in (suc c.0, omega (arith, less), c.2))
]

-- the result of the test decides membership
pub is_contained : (xs : List Lock) (l : Lock) (b : Bool) → b ≡ among xs l →
    (IsTrue b → Contains xs l) × (Contains xs l → IsTrue b)
is_contained xs l b e = (λ t. among_contains xs l (sym e ∙ t), λ c. e ∙ contains_among xs l c)

-- ---- before others

-- one lock comes before another by rank, and within a class by object
abbrev pub IsBefore : List ℕ → Lock → Lock → Type 0
IsBefore ranks a b =
    (slice_index ranks a.class < slice_index ranks b.class) ⊎ ((a.class ≡ b.class) × (a.object < b.object))

pub is_before : (ranks : List ℕ) (a b : Lock) → Precedes ranks a b → IsBefore ranks a b
is_before ranks a b h =
    elim (or_cases (nat_lt (slice_index ranks a.class) (slice_index ranks b.class)) ((a.class == b.class) && nat_lt a.object b.object) h) [
      | inl e ↦ inl (ltb-true (slice_index ranks a.class) (slice_index ranks b.class) e)
      | inr e ↦ (let parts = and_parts (a.class == b.class) (nat_lt a.object b.object) e in
          inr (eqb-true a.class b.class parts.0, ltb-true a.object b.object parts.1))
    ]

pub by_rank : (ranks : List ℕ) (a b : Lock) → slice_index ranks a.class < slice_index ranks b.class → Precedes ranks a b
by_rank ranks a b lt =
    or_left (nat_lt (slice_index ranks a.class) (slice_index ranks b.class)) ((a.class == b.class) && nat_lt a.object b.object)
    (lt-ltb (slice_index ranks a.class) (slice_index ranks b.class) lt)

pub by_object : (ranks : List ℕ) (a b : Lock) → a.class ≡ b.class → a.object < b.object → Precedes ranks a b
by_object ranks a b same lt =
    or_right (nat_lt (slice_index ranks a.class) (slice_index ranks b.class)) ((a.class == b.class) && nat_lt a.object b.object)
    (and_from (a.class == b.class) (nat_lt a.object b.object) (eq-eqb a.class b.class same) (lt-ltb a.object b.object lt))

pub precedes_by : (ranks : List ℕ) (a b : Lock) → IsBefore ranks a b → Precedes ranks a b
precedes_by ranks a b (inl lt) = by_rank ranks a b lt
precedes_by ranks a b (inr q) = by_object ranks a b q.0 q.1
