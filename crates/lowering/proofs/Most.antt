-- The most cells that a lock of a class protects, and sums of them.
use Rattle.std.proofs.Common.{◌≡◌, ℕ, ◌+◌, ◌<◌, ◌≤◌, max, Bool, true, false, List, [], ◌∷◌, ◌++◌, length, take, get_or}
use Rattle.std.proofs.Common.{set, map, slice_index, Option, Some, None, inl, inr, refl, sym, ap, subst, ◌∙◌, arith}
use Rattle.std.specs.Prelude.{slice_get, ◌==◌, if◌then◌else◌}
use Rattle.std.specs.List.{Contains, sum_by, count_by, flat_map, range_with_len}
use Rattle.std.proofs.lemmas.Bool.{cases_eq, eq-eqb, ne_eqb}
use Rattle.std.proofs.lemmas.List.{take_more, flat_map_more, length-take, length-append, get_or-set_same, get_or-set_other, get_or_default}
use Rattle.std.proofs.lemmas.List.FromFn.{length-range_with_len}
use Rattle.std.proofs.lemmas.List.Elements.{Contains-get_or}
use Rattle.std.proofs.lemmas.List.Sums.{sum_by-cons, count_by_more_yes, count_by_more_no, count_by-le-length}
use Rattle.std.proofs.lemmas.Option.{slice_get_within, get_or_from_slice_get}
use Rattle.core_lang.specs.declared.shape.Pool.{Pool}
use Rattle.core_lang.specs.declared.typed.LockClass.{LockClass}
use Rattle.core_lang.specs.declared.typed.Typed.{Typed}
use Rattle.locks.specs.declared.lock.Lock.{Lock}
use Rattle.locks.specs.declared.path.LockPath as written
use Rattle.locks.specs.LockPaths.{LockPath, lock_path_of}
use Rattle.layout.specs.LockCells.{cells_of}
use Rattle.locks.specs.Locks.{IsLockOfClass, members_if}
use Rattle.layout.specs.Layouts.{LayoutOf, IsLayoutOf}
use Rattle.lowering.specs.Working.Rooms.{most_among}

-- a lock of the program has one of its classes
listed_class : (program : Typed) (lock : Lock) (found : Option LockClass) →
    slice_get program.classes.items lock.class ≡ found → IsLockOfClass program lock found →
    lock.class < length program.classes.items
listed_class program lock None e h = absurd h
listed_class program lock (Some x) e h = slice_get_within program.classes.items lock.class x e

pub lock_within : (program : Typed) (layout : LayoutOf) (lock : Lock) → IsLayoutOf program layout →
    Contains layout.locks lock → lock.class < length program.classes.items
lock_within program layout lock is held =
    listed_class program lock (slice_get program.classes.items lock.class) refl ((is.listed lock).0 held)

pub class_within : (program : Typed) (layout : LayoutOf) (locks : List Lock) (i : ℕ) (d : Lock) →
    IsLayoutOf program layout → locks ≡ layout.locks → i < length locks →
    (get_or locks i d).class < length program.classes.items
class_within program layout locks i d is same lt =
    let lock = get_or locks i d in
    let held : Contains layout.locks lock = subst (λ ls. Contains ls lock) same (Contains-get_or locks i d lt) in
    lock_within program layout lock is held

-- ---- one lock more

counted : (b : Bool) (n m : ℕ) → (if b then max n m else m) ≡ max m (if b then n else 0)
counted true n m = omega arith
counted false n m = omega arith

most-append : (cells : List Lock) (locks : List Lock) (lock : Lock) (class : ℕ) →
    most_among cells (locks ++ lock ∷ []) class ≡ max (most_among cells locks class) (if lock.class == class then length (cells_of cells lock) else 0)
most-append cells [] lock class = counted (lock.class == class) (length (cells_of cells lock)) 0
most-append cells (x ∷ locks) lock class =
    let here = counted (x.class == class) (length (cells_of cells x)) in
    omega (arith, here (most_among cells (locks ++ lock ∷ []) class), here (most_among cells locks class), most-append cells locks lock class)

pub most_turn : (cells locks : List Lock) (i : ℕ) (d : Lock) (table : List ℕ) (old n : ℕ) →
    ((class : ℕ) → slice_index table class ≡ most_among cells (take i locks) class) →
    i < length locks → (get_or locks i d).class < length table → old ≡ get_or table (get_or locks i d).class old → n ≡ max old (length (cells_of cells (get_or locks i d))) →
    (class : ℕ) → slice_index (set table (get_or locks i d).class n) class ≡ most_among cells (take (i + 1) locks) class
most_turn cells locks i d table old n each lt within was is class =
    let lock = get_or locks i d in
    let more = ap (λ ls. most_among cells ls class) (take_more locks i d lt) ∙ most-append cells (take i locks) lock class in
    let size = length (cells_of cells lock) in
    elim (cases_eq class lock.class) [
      | inl e ↦
          let got : slice_index (set table lock.class n) class ≡ n = ap (slice_index (set table lock.class n)) e ∙ get_or-set_same table lock.class n 0 within in
          let before : old ≡ most_among cells (take i locks) class =
          was ∙ get_or_default table lock.class old 0 within ∙ ap (slice_index table) (sym e) ∙ each class in
          let holds : (if lock.class == class then size else 0) ≡ size = ap (λ b. if b then size else 0) (eq-eqb lock.class class (sym e)) in
          omega (arith, got, before, holds, is, more)
      | inr e ↦
          let got : slice_index (set table lock.class n) class ≡ slice_index table class = get_or-set_other table lock.class class n 0 e in
          let fails : (if lock.class == class then size else 0) ≡ 0 = ap (λ b. if b then size else 0) (ne_eqb lock.class class (λ h. e (sym h))) in
          omega (arith, got, each class, fails, more)
    ]

-- ---- one cell more

-- of so many cells at most so many have a lock of a class
pub count_within : (cells : List Lock) (i class : ℕ) → i < length cells →
    count_by (λ (lock : Lock). lock.class == class) (take i cells) ≤ i
count_within cells i class lt =
    let few = count_by-le-length (λ (lock : Lock). lock.class == class) (take i cells) in
    let long = length-take i cells in
    omega (arith, few, long, lt)

pub count_turn : (cells : List Lock) (i : ℕ) (lock : Lock) (table : List ℕ) (old n : ℕ) →
    ((class : ℕ) → slice_index table class ≡ count_by (λ (l : Lock). l.class == class) (take i cells)) →
    slice_get cells i ≡ Some lock → lock.class < length table → old ≡ get_or table lock.class old → n ≡ old + 1 →
    (class : ℕ) → slice_index (set table lock.class n) class ≡ count_by (λ (l : Lock). l.class == class) (take (i + 1) cells)
count_turn cells i lock table old n each at within was is class =
    let p = λ (l : Lock). l.class == class in
    let lt = slice_get_within cells i lock at in
    let here : get_or cells i lock ≡ lock = get_or_from_slice_get cells i lock lock at in
    elim (cases_eq class lock.class) [
      | inl e ↦
          let got : slice_index (set table lock.class n) class ≡ n = ap (slice_index (set table lock.class n)) e ∙ get_or-set_same table lock.class n 0 within in
          let before : old ≡ count_by p (take i cells) =
          was ∙ get_or_default table lock.class old 0 within ∙ ap (slice_index table) (sym e) ∙ each class in
          let more = count_by_more_yes p cells i lock lt (ap p here ∙ eq-eqb lock.class class (sym e)) in
          omega (arith, got, before, is, more)
      | inr e ↦
          let got : slice_index (set table lock.class n) class ≡ slice_index table class = get_or-set_other table lock.class class n 0 e in
          let more = count_by_more_no p cells i lock lt (ap p here ∙ ne_eqb lock.class class (λ h. e (sym h))) in
          omega (arith, got, each class, more)
    ]

-- ---- one pool more

pub pool_turn : (structure : ℕ) (pools : List Pool) (i : ℕ) (pool : Pool) → i < length pools → pool ≡ get_or pools i pool →
    length (flat_map (members_if structure) (take (i + 1) pools))
    ≡ length (flat_map (members_if structure) (take i pools)) + length (members_if structure pool)
pool_turn structure pools i pool lt at =
    ap (λ ps. length (flat_map (members_if structure) ps)) (take_more pools i pool lt)
    ∙ ap length (sym (flat_map_more (members_if structure) [] (take i pools) (get_or pools i pool)))
    ∙ length-append (flat_map (members_if structure) (take i pools)) (members_if structure (get_or pools i pool))
    ∙ ap (λ (p : Pool). length (flat_map (members_if structure) (take i pools)) + length (members_if structure p)) (sym at)

members_yes : (structure : ℕ) (pool : Pool) → (pool.structure == structure) ≡ true → length (members_if structure pool) ≡ pool.length
members_yes structure pool e =
    ap (λ b. length (if b then range_with_len pool.first pool.length else [])) e ∙ length-range_with_len pool.first pool.length

members_no : (structure : ℕ) (pool : Pool) → (pool.structure == structure) ≡ false → length (members_if structure pool) ≡ 0
members_no structure pool e = ap (λ b. length (if b then range_with_len pool.first pool.length else [])) e

pub pool_more : (structure : ℕ) (pools : List Pool) (i count more : ℕ) (pool : Pool) → i < length pools →
    pool ≡ get_or pools i pool → count ≡ length (flat_map (members_if structure) (take i pools)) →
    (pool.structure == structure) ≡ true → more ≡ count + pool.length →
    more ≡ length (flat_map (members_if structure) (take (i + 1) pools))
pool_more structure pools i count more pool lt at is holds sum =
    let turn = pool_turn structure pools i pool lt at in
    let size = members_yes structure pool holds in
    omega (arith, turn, size, is, sum)

pub pool_same : (structure : ℕ) (pools : List Pool) (i count : ℕ) (pool : Pool) → i < length pools →
    pool ≡ get_or pools i pool → count ≡ length (flat_map (members_if structure) (take i pools)) →
    (pool.structure == structure) ≡ false → count ≡ length (flat_map (members_if structure) (take (i + 1) pools))
pool_same structure pools i count pool lt at is fails =
    let turn = pool_turn structure pools i pool lt at in
    let size = members_no structure pool fails in
    omega (arith, turn, size, is)

-- ---- sums

-- a sum over paths as the code has them is one over the paths that they stand for
pub sum_over : (f g : LockPath → ℕ) → ((path : LockPath) → f path ≡ g path) → (paths : List written.LockPath) →
    sum_by (λ (path : written.LockPath). f (lock_path_of path)) paths ≡ sum_by g (map lock_path_of paths)
sum_over f g same [] = refl
sum_over f g same (x ∷ paths) =
    omega (
      arith,
      sum_by-cons (λ (path : written.LockPath). f (lock_path_of path)) x paths,
      sum_by-cons g (lock_path_of x) (map lock_path_of paths),
      same (lock_path_of x),
      sum_over f g same paths,
    )
