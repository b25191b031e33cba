-- The objects of a struct. Nobody has to believe these facts: they are proved here, for proofs of this crate and of those
-- above.
use Rattle.std.proofs.Common.{◌≡◌, ◌⊎◌, ◌+◌, ◌<◌, ◌≤◌, ℕ, zero, suc, Bool, true, false, if◌then◌else◌, List, [], ◌∷◌}
use Rattle.std.proofs.Common.{Some, refl, sym, ap, ◌∙◌, subst, arith, inl, inr}
use Rattle.std.specs.Prelude.{slice_get, Option, ◌==◌}
use Rattle.std.specs.List.{Contains, flat_map, range_with_len}
use Rattle.std.proofs.lemmas.Bool.{cases_eq, eq-eqb, eqb-true}
use Rattle.std.proofs.lemmas.Option.{none-some}
use Rattle.std.proofs.lemmas.List.Elements.{Contains-append_left, Contains-append_right, Contains-append_cases}
use Rattle.core_lang.specs.declared.shape.Object.{Object}
use Rattle.core_lang.specs.declared.shape.Pool.{Pool}
use Rattle.core_lang.specs.declared.typed.Typed.{Typed}
use Rattle.core_lang.specs.Typing.{lookup, struct_of}
use Rattle.core_lang.specs.WellFormed.{IsLaidOut}
use Rattle.core_lang.specs.Theory.Items.{not_in_none, in_first, in_rest, in_cases, lookup_some, same_value, some_same}
use Rattle.locks.specs.Locks.{members_if, members_of}

-- ---- the items of the lists that items have, one after another

pub in_flat_map : {X Y : Type 0} (f : X → List Y) (xs : List X) (i : ℕ) (x : X) (y : Y) → slice_get xs i ≡ Some x →
    Contains (f x) y → Contains (flat_map f xs) y
in_flat_map f [] i x y e c = absurd (none-some x e)
in_flat_map {X} {Y} f (z ∷ xs) zero x y e c =
    let same : x ≡ z = cc in
    Contains-append_left (f z) (flat_map f xs) y (subst (λ (w : X). Contains (f w) y) same c)
in_flat_map f (z ∷ xs) (suc i) x y e c = Contains-append_right (f z) (flat_map f xs) y (in_flat_map f xs i x y e c)

pub from_flat_map : {X Y : Type 0} (f : X → List Y) (xs : List X) (y : Y) → Contains (flat_map f xs) y →
    (i : ℕ) × (x : X) × (slice_get xs i ≡ Some x) × Contains (f x) y
from_flat_map f [] y c = absurd (not_in_none y c)
from_flat_map f (z ∷ xs) y c =
    elim (Contains-append_cases (f z) (flat_map f xs) y c) [
      | inl d ↦ (0, z, refl, d)
      | inr d ↦ let r = from_flat_map f xs y d in (suc r.0, r.1, r.2, r.3)
    ]

-- ---- numbers in a range

pub in_range : (a n k : ℕ) → a ≤ k → k < a + n → Contains (range_with_len a n) k
in_range a zero k low high = absurd (omega (arith, low, high))
in_range a (suc n) k low high =
    elim (cases_eq a k) [
      | inl e ↦ subst (λ j. Contains (range_with_len a (suc n)) j) e (in_first a (range_with_len (a + 1) n))
      | inr other ↦ in_rest a k (range_with_len (a + 1) n) (in_range (a + 1) n k (omega (arith, low, other)) (omega (arith, high)))
    ]

pub from_range : (a n k : ℕ) → Contains (range_with_len a n) k → (a ≤ k) × (k < a + n)
from_range a zero k c = absurd (not_in_none k c)
from_range a (suc n) k c =
    elim (in_cases a k (range_with_len (a + 1) n) c) [
      | inl e ↦ (omega (arith, e), omega (arith, e))
      | inr d ↦ let r = from_range (a + 1) n k d in let low = r.0 in let high = r.1 in (omega (arith, low), omega (arith, high))
    ]

-- ---- members

in_pool : (structure : ℕ) (pool : Pool) (o : ℕ) → pool.structure ≡ structure → pool.first ≤ o →
    o < pool.first + pool.length → Contains (members_if structure pool) o
in_pool structure pool o e low high =
    subst (λ (b : Bool). Contains (if b then range_with_len pool.first pool.length else []) o) (sym (eq-eqb pool.structure structure e))
    (in_range pool.first pool.length o low high)

from_pool : (structure : ℕ) (pool : Pool) (o : ℕ) (b : Bool) → (pool.structure == structure) ≡ b →
    Contains (if b then range_with_len pool.first pool.length else []) o →
    (pool.structure ≡ structure) × (pool.first ≤ o) × (o < pool.first + pool.length)
from_pool structure pool o true e c =
    let r = from_range pool.first pool.length o c in (eqb-true pool.structure structure e, r.0, r.1)
from_pool structure pool o false e c = absurd (not_in_none o c)

behind : (first o : ℕ) → first ≤ o → (i : ℕ) × (first + i ≡ o)
behind zero o low = (o, omega arith)
behind (suc first) zero low = absurd (omega (arith, low))
behind (suc first) (suc o) low = let r = behind first o (omega (arith, low)) in let e = r.1 in (r.0, omega (arith, e))

module _ (program : Typed) (laid : IsLaidOut program) where
  -- an object of a struct is one of its members, and each member is an object of the struct
  pub is_member : (o s : ℕ) → struct_of program.shape o ≡ Some s → Contains (members_of program.shape s) o
  is_member o s e =
      let pools = program.shape.pools.items in
      let x = lookup_some (slice_get program.shape.objects.items o)
      (λ (object : Object). lookup (slice_get pools object.pool) (λ (pool : Pool). Some pool.structure)) s e in
      let y = lookup_some (slice_get pools x.0.pool) (λ (pool : Pool). Some pool.structure) s x.2 in
      let at = laid.object o x.0 x.1 in
      let same : at.0 ≡ y.0 = same_value (slice_get pools x.0.pool) at.0 y.0 at.1 y.1 in
      in_flat_map (members_if s) pools x.0.pool y.0 o y.1
      (in_pool s y.0 o (some_same y.0.structure s y.2) (subst (λ (p : Pool). p.first ≤ o) same at.2)
      (subst (λ (p : Pool). o < p.first + p.length) same at.3))

  pub member_is : (o s : ℕ) → Contains (members_of program.shape s) o → struct_of program.shape o ≡ Some s
  member_is o s c =
      let pools = program.shape.pools.items in
      let r = from_flat_map (members_if s) pools o c in
      let pool = r.1 in
      let at = from_pool s pool o (pool.structure == s) refl r.3 in
      let i = behind pool.first o at.1 in
      let high = at.2 in
      let sum = i.1 in
      let object = laid.pool r.0 pool r.2 i.0 (omega (arith, high, sum)) in
      let here : slice_get program.shape.objects.items o ≡ Some object.0 =
      ap (slice_get program.shape.objects.items) (sym i.1) ∙ object.1 in
      ap (λ (z : Option Object). lookup z (λ (w : Object). lookup (slice_get pools w.pool) (λ (p : Pool). Some p.structure))) here
      ∙ ap (λ (z : Option Pool). lookup z (λ (p : Pool). Some p.structure)) (ap (slice_get pools) object.2 ∙ r.2) ∙ ap Some at.0
