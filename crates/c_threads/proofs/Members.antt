-- The locks of a whole class rise with the numbers of their objects, pool after pool. If none of them is held, all of them
-- are asked for, in this order.
use Rattle.std.proofs.Common.{◌≡◌, ◌≢◌, ◌≤◌, ◌<◌, ℕ, zero, suc, ◌+◌, List, [], ◌∷◌, ◌++◌, map, Some, Bool}
use Rattle.std.proofs.Common.{true, false, refl, sym, ap, ◌∙◌, subst, arith, inl, inr, if◌then◌else◌}
use Rattle.std.specs.Prelude.{nat_lt, ◌==◌, slice_get, ⊤}
use Rattle.std.specs.List.{AllPairs, Contains, flat_map, range_with_len}
use Rattle.std.proofs.lemmas.Bool.Decides.{nat_tests}
use Rattle.std.proofs.lemmas.List.Kept.{AllPairs-cons}
use Rattle.core_lang.specs.declared.shape.Pool.{Pool}
use Rattle.core_lang.specs.declared.shape.Shape.{Shape}
use Rattle.core_lang.specs.Theory.Items.{at_contained, in_cases, in_first, in_rest, in_map, not_in_none, from_map, all_from}
use Rattle.locks.specs.declared.lock.Lock.{Lock}
use Rattle.locks.specs.Locks.{same_lock, among, object_lock, members_if, members_of, locks_of}
use Rattle.locks.specs.Order.{precedes}
use Rattle.worlds.specs.Asking.{insert}
use Rattle.c_threads.specs.Locking.{Pointer}
use Rattle.c_threads.proofs.Orders.{asked, insert_one, same_class, same_object}

-- the members of each pool come before those of later ones
abbrev pub AreRising : List Pool → Type 0
AreRising pools =
    (p q : ℕ) (x y : Pool) → p < q → slice_get pools p ≡ Some x → slice_get pools q ≡ Some y → x.first + x.length ≤ y.first

abbrev pub PoolsRise : Shape → Type 0
PoolsRise shape = AreRising shape.pools.items

-- ---- objects

-- each number is greater than those before it, and the first is no less than this one
abbrev pub RisesFrom : ℕ → List ℕ → Type 0
RisesFrom n [] = ⊤
RisesFrom n (o ∷ os) = (n ≤ o) × RisesFrom (o + 1) os

abbrev PoolsFrom : ℕ → List Pool → Type 0
PoolsFrom n [] = ⊤
PoolsFrom n (p ∷ ps) = (n ≤ p.first) × PoolsFrom (p.first + p.length) ps

pools_from : (ps : List Pool) (n : ℕ) → AreRising ps → ((p : Pool) → Contains ps p → n ≤ p.first) → PoolsFrom n ps
pools_from [] n rise low = tt
pools_from (p ∷ ps) n rise low = (
  low p (in_first p ps),
  pools_from ps (p.first + p.length) (λ a b x y less ex ey. rise (suc a) (suc b) x y (omega (arith, less)) ex ey)
      (λ q c. (let at = at_contained ps q c in rise 0 (suc at.0) p q (omega arith) refl at.1)),
)

from_less : (os : List ℕ) (n m : ℕ) → n ≤ m → RisesFrom m os → RisesFrom n os
from_less [] n m less rise = tt
from_less (o ∷ os) n m less rise = (let low = rise.0 in omega (arith, less, low), rise.1)

range_then : (len a : ℕ) (os : List ℕ) → RisesFrom (a + len) os → RisesFrom a (range_with_len a len ++ os)
range_then zero a os rise = let e : a + 0 ≡ a = omega arith in subst (λ n. RisesFrom n os) e rise
range_then (suc len) a os rise =
    let e : a + suc len ≡ a + 1 + len = omega arith in
    (omega arith, range_then len (a + 1) os (subst (λ n. RisesFrom n os) e rise))

pools_rise : (s : ℕ) (ps : List Pool) (n : ℕ) → PoolsFrom n ps → RisesFrom n (flat_map (members_if s) ps)
pools_rise s [] n rise = tt
pools_rise s (p ∷ ps) n rise = by (p.structure == s) (pools_rise s ps (p.first + p.length) rise.1) where
  by : (b : Bool) → RisesFrom (p.first + p.length) (flat_map (members_if s) ps) →
      RisesFrom n ((if b then range_with_len p.first p.length else []) ++ flat_map (members_if s) ps)
  by true rest =
      from_less (range_with_len p.first p.length ++ flat_map (members_if s) ps) n p.first rise.0
      (range_then p.length p.first (flat_map (members_if s) ps) rest)
  by false rest =
      let low = rise.0 in
      from_less (flat_map (members_if s) ps) n (p.first + p.length) (omega (arith, low)) rest

-- the objects of a struct rise
pub members_rise : (shape : Shape) (s : ℕ) → PoolsRise shape → RisesFrom 0 (members_of shape s)
members_rise shape s rise =
    pools_rise s shape.pools.items 0 (pools_from shape.pools.items 0 rise (λ p c. omega arith))

no_less : (os : List ℕ) (n o : ℕ) → RisesFrom n os → Contains os o → n ≤ o
no_less [] n o rise c = absurd (not_in_none o c)
no_less (q ∷ os) n o rise c = elim (in_cases q o os c) [
  | inl e ↦ (let low = rise.0 in omega (arith, low, e))
  | inr d ↦ (let low = rise.0 in let more = no_less os (q + 1) o rise.1 d in omega (arith, low, more))
]

-- ---- their locks

module _ (class : ℕ) where
  abbrev lock_at : ℕ → Lock
  lock_at o = object_lock class o

  -- no lock is there twice
  apart : (os : List ℕ) (n : ℕ) → RisesFrom n os → AllPairs ◌≢◌ (map (object_lock class) os)
  apart [] n rise = λ i j d less within. absurd (omega (arith, within))
  apart (o ∷ os) n rise =
      AllPairs-cons ◌≢◌ (lock_at o) (map (object_lock class) os)
      (all_from (λ x. lock_at o ≢ x) (map (object_lock class) os) (λ x c same.
      (let r = from_map (object_lock class) os x c in
      let low = no_less os (o + 1) r.0 rise.1 r.1 in
      let e : o ≡ r.0 = ap (λ (l : Lock). l.object) (same ∙ sym r.2) in
      omega (arith, low, e))))
      (apart os (o + 1) rise.1)

  module _ (ranks : List ℕ) (held : List Lock) where
    goes_first : (o : ℕ) (os : List ℕ) → RisesFrom (o + 1) os →
        insert ranks (lock_at o) (map (object_lock class) os) ≡ lock_at o ∷ map (object_lock class) os
    goes_first o [] rise = refl
    goes_first o (q ∷ os) rise =
        let low : o + 1 ≤ q = rise.0 in
        let rest = map (object_lock class) os in
        let other : same_lock (lock_at o) (lock_at q) ≡ false = same_object (lock_at o) (lock_at q) refl ∙ not_equal o q low in
        let first : precedes ranks (lock_at o) (lock_at q) ≡ true = same_class ranks (lock_at o) (lock_at q) refl ∙ is_below o q low in
        ap (λ b. if b then lock_at q ∷ rest else if precedes ranks (lock_at o) (lock_at q) then lock_at o ∷ lock_at q ∷ rest
        else lock_at q ∷ insert ranks (lock_at o) rest) other
        ∙ ap (λ b. if b then lock_at o ∷ lock_at q ∷ rest else lock_at q ∷ insert ranks (lock_at o) rest) first
      where
        not_equal : (a b : ℕ) → a + 1 ≤ b → (a == b) ≡ false
        not_equal a b low = grind (arith, nat_tests)

        is_below : (a b : ℕ) → a + 1 ≤ b → nat_lt a b ≡ true
        is_below a b low = grind (arith, nat_tests)

    abbrev all : List ℕ → List Pointer
    all os = map (λ (l : Lock). Some l) (map (object_lock class) os)

    all_asked : (os : List ℕ) (n : ℕ) → RisesFrom n os → ((o : ℕ) → Contains os o → among held (lock_at o) ≡ false) →
        asked ranks held (all os) ≡ map (object_lock class) os
    all_asked [] n rise free = refl
    all_asked (o ∷ os) n rise free =
        let rest = map (object_lock class) os in
        ap (insert_one ranks held (Some (lock_at o))) (all_asked os (o + 1) rise.1 (λ q c. free q (in_rest o q os c)))
        ∙ ap (λ b. if b then rest else insert ranks (lock_at o) rest) (free o (in_first o os))
        ∙ goes_first o os rise.1

    none_asked : (os : List ℕ) → ((o : ℕ) → Contains os o → among held (lock_at o) ≡ true) → asked ranks held (all os) ≡ []
    none_asked [] there = refl
    none_asked (o ∷ os) there =
        ap (insert_one ranks held (Some (lock_at o))) (none_asked os (λ q c. there q (in_rest o q os c)))
        ∙ ap (λ b. if b then [] else insert ranks (lock_at o) []) (there o (in_first o os))

-- no lock of a class is there twice
pub class_apart : (shape : Shape) (class s : ℕ) → PoolsRise shape → AllPairs ◌≢◌ (locks_of shape class s)
class_apart shape class s rise = apart class (members_of shape s) 0 (members_rise shape s rise)

-- the locks of a class as they are asked for, if none of them is held
pub class_asked : (shape : Shape) (class s : ℕ) (ranks : List ℕ) (held : List Lock) → PoolsRise shape →
    ((l : Lock) → Contains (locks_of shape class s) l → among held l ≡ false) →
    asked ranks held (map (λ (l : Lock). Some l) (locks_of shape class s)) ≡ locks_of shape class s
class_asked shape class s ranks held rise free =
    all_asked class ranks held (members_of shape s) 0 (members_rise shape s rise)
    (λ o c. free (object_lock class o) (in_map (object_lock class) (members_of shape s) o c))

-- if all of them are held, none is asked for
pub none_of_class : (shape : Shape) (class s : ℕ) (ranks : List ℕ) (held : List Lock) →
    ((l : Lock) → Contains (locks_of shape class s) l → among held l ≡ true) →
    asked ranks held (map (λ (l : Lock). Some l) (locks_of shape class s)) ≡ []
none_of_class shape class s ranks held there =
    none_asked class ranks held (members_of shape s)
    (λ o c. there (object_lock class o) (in_map (object_lock class) (members_of shape s) o c))
