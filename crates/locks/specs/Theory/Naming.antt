-- The locks that a path names: their class, and how many they are. Nobody has to believe these facts: they are proved
-- here, for proofs of this crate and of those above.
use Rattle.std.proofs.Common.{◌≡◌, ◌≤◌, ℕ, List, [], ◌∷◌, length, Option, Some, None, refl, sym, ap, arith}
use Rattle.std.specs.Option.{option_map}
use Rattle.std.specs.List.{Contains, flat_map}
use Rattle.std.proofs.lemmas.List.{length-map, length-append}
use Rattle.std.proofs.lemmas.List.Sums.{sum_by-cons}
use Rattle.core_lang.specs.declared.value.Value.{Value}
use Rattle.core_lang.specs.declared.shape.Shape.{Shape}
use Rattle.core_lang.specs.Theory.Items.{not_in_none, one_contained, from_map}
use Rattle.locks.specs.declared.lock.Lock.{Lock}
use Rattle.locks.specs.declared.path.Root.{Root}
use Rattle.locks.specs.declared.path.Root.TheVariants.{GlobalLock, WholeClass, Local as AtLocal}
use Rattle.locks.specs.Locks.{global_lock, object_lock, members_of}
use Rattle.locks.specs.LockPaths.{LockPath, object_at, one_or_none, locks_from, locks_named, Names, most_from, most_named}
use Rattle.locks.specs.LockPaths.{most_locks}

-- ---- their class

-- the object whose lock a path from a local names
pub object_named : (number : ℕ) (o : Option ℕ) (l : Lock) → Contains (one_or_none (option_map (object_lock number) o)) l →
    (n : ℕ) × (o ≡ Some n) × (object_lock number n ≡ l)
object_named number None l c = absurd (not_in_none l c)
object_named number (Some n) l c = (n, refl, one_contained (object_lock number n) l c)

of_root : (root : Root) (finals : List ℕ) (number : ℕ) (shape : Shape) (locals : List Value) (l : Lock) →
    Contains (locks_from root finals number shape locals) l → l.class ≡ number
of_root GlobalLock finals number shape locals l c = ap (λ (x : Lock). x.class) (sym (one_contained (global_lock number) l c))
of_root (WholeClass s) finals number shape locals l c =
    let r = from_map (object_lock number) (members_of shape s) l c in ap (λ (x : Lock). x.class) (sym r.2)
of_root (AtLocal k) finals number shape locals l c =
    let r = object_named number (object_at shape locals k finals) l c in ap (λ (x : Lock). x.class) (sym r.2)

-- a lock that a path names has the class of the path
pub named_class : (path : LockPath) (shape : Shape) (locals : List Value) (l : Lock) → Names path shape locals l →
    l.class ≡ path.class
named_class path shape locals l c = of_root path.root path.finals path.class shape locals l c

-- ---- how many they are

at_most_one : (o : Option Lock) → length (one_or_none o) ≤ 1
at_most_one None = omega arith
at_most_one (Some l) = omega arith

few_from : (root : Root) (finals : List ℕ) (number : ℕ) (shape : Shape) (locals : List Value) →
    length (locks_from root finals number shape locals) ≤ most_from shape root
few_from GlobalLock finals number shape locals = omega arith
few_from (WholeClass s) finals number shape locals =
    let same = length-map (members_of shape s) (object_lock number) in omega (arith, same)
few_from (AtLocal k) finals number shape locals = at_most_one (option_map (object_lock number) (object_at shape locals k finals))

-- a path names at most as many locks as it can
pub few_named : (path : LockPath) (shape : Shape) (locals : List Value) →
    length (locks_named path shape locals) ≤ most_named shape path
few_named path shape locals = few_from path.root path.finals path.class shape locals

-- and so do paths together
pub few_in_paths : (paths : List LockPath) (shape : Shape) (locals : List Value) →
    length (flat_map (λ (path : LockPath). locks_named path shape locals) paths) ≤ most_locks shape paths
few_in_paths [] shape locals = omega arith
few_in_paths (path ∷ paths) shape locals =
    let all = length-append (locks_named path shape locals) (flat_map (λ (p : LockPath). locks_named p shape locals) paths) in
    let sum = sum_by-cons (most_named shape) path paths in
    let first = few_named path shape locals in
    let rest = few_in_paths paths shape locals in
    omega (arith, all, sum, first, rest)
