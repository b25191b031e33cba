-- Locks that paths name have together at most as many cells as the paths may name.
use Rattle.std.proofs.Common.{◌≡◌, ◌⊎◌, ℕ, zero, suc, ◌+◌, ◌≤◌, max, Bool, true, false, List, [], ◌∷◌, ◌++◌, length, map}
use Rattle.std.proofs.Common.{Option, Some, None, refl, sym, ap, ◌∙◌, subst, arith, inl, inr, true≢false}
use Rattle.std.specs.Prelude.{◌≢◌, ◌==◌, ◌||◌, cond, if◌then◌else◌}
use Rattle.std.specs.Option.{option_map}
use Rattle.std.specs.List.{AllPairs, Contains, sum_by, count_by, flat_map}
use Rattle.std.proofs.lemmas.Bool.{cases_Bool, eq-eqb, or_cases, or_left}
use Rattle.std.proofs.lemmas.List.Elements.{Contains-append_cases}
use Rattle.std.proofs.lemmas.List.Sums.{sum_by-cons}
use Rattle.core_lang.specs.declared.value.Value.{Value}
use Rattle.core_lang.specs.declared.shape.Shape.{Shape}
use Rattle.locks.specs.declared.lock.Lock.{Lock}
use Rattle.locks.specs.declared.path.Root.{Root}
use Rattle.locks.specs.declared.path.Root.TheVariants.{GlobalLock, WholeClass, Local as AtLocal}
use Rattle.locks.specs.Locks.{global_lock, object_lock, members_of, locks_of, same_lock, among}
use Rattle.locks.specs.LockPaths.{LockPath, object_at, one_or_none, locks_from, locks_named, Names}
use Rattle.locks.specs.Theory.Order.{same_is, same_refl, contains_among, among_contains}
use Rattle.layout.specs.LockCells.{cells_from, cells_of}
use Rattle.layout.specs.Layouts.{LayoutOf}
use Rattle.lowering.specs.Working.Rooms.{most_among, most_cells, all_cells, cells_under}
use Rattle.lowering.specs.Working.Rooms.{cells_from as most_from}
use Rattle.core_lang.specs.Theory.Items.{in_first, in_rest, distinct_first, from_map, not_in_none}

-- ---- counting

abbrev one_if : Bool → ℕ
one_if b = cond b 1 0

counted_cons : (p : Lock → Bool) (x : Lock) (xs : List Lock) → count_by p (x ∷ xs) ≡ one_if (p x) + count_by p xs
counted_cons p x xs = sum_by-cons (λ y. cond (p y) 1 0) x xs

is_one : (b : Bool) → b ≡ true → one_if b ≡ 1
is_one b e = ap one_if e

is_none : (b : Bool) → b ≡ false → one_if b ≡ 0
is_none b e = ap one_if e

few : (b : Bool) → one_if b ≤ 1
few true = omega arith
few false = omega arith

-- what passes one test passes one of two others
count_two : (p q r : Lock → Bool) → ((l : Lock) → p l ≡ true → (q l ≡ true) ⊎ (r l ≡ true)) → (cells : List Lock) →
    count_by p cells ≤ count_by q cells + count_by r cells
count_two p q r either [] = omega arith
count_two p q r either (l ∷ ls) =
    let rest = count_two p q r either ls in
    let x = counted_cons p l ls in
    let y = counted_cons q l ls in
    let z = counted_cons r l ls in
    let part : one_if (p l) ≤ one_if (q l) + one_if (r l) =
    elim (cases_Bool (p l)) [
      | inl e ↦ elim (either l e) [
        | inl h ↦ (let one = is_one (q l) h in let most = few (p l) in omega (arith, one, most))
        | inr h ↦ (let one = is_one (r l) h in let most = few (p l) in omega (arith, one, most))
      ]
      | inr e ↦ (let none = is_none (p l) e in omega (arith, none))
    ] in
    omega (arith, rest, x, y, z, part)

-- nothing passes a test that all fail
count_none : (p : Lock → Bool) → ((l : Lock) → p l ≡ false) → (cells : List Lock) → count_by p cells ≡ 0
count_none p fails [] = refl
count_none p fails (l ∷ ls) =
    let rest = count_none p fails ls in
    let x = counted_cons p l ls in
    let none = is_none (p l) (fails l) in
    omega (arith, rest, x, none)

count_le : (p q : Lock → Bool) → ((l : Lock) → p l ≡ true → q l ≡ true) → (cells : List Lock) →
    count_by p cells ≤ count_by q cells
count_le p q all cells =
    let two = count_two p q (λ l. false) (λ l h. inl (all l h)) cells in
    let none = count_none (λ l. false) (λ l. refl) cells in
    omega (arith, two, none)

-- ---- the cells of one lock

sized : (n : ℕ) (cells : List Lock) (lock : Lock) → length (cells_from n cells lock) ≡ count_by (λ (l : Lock). same_lock l lock) cells
sized n [] lock = refl
sized n (l ∷ ls) lock =
    let rest = sized (n + 1) ls lock in
    let x = counted_cons (λ (l : Lock). same_lock l lock) l ls in
    let here = by (same_lock l lock) (cells_from (n + 1) ls lock) in
    omega (arith, rest, x, here)
  where
    by : (b : Bool) (ks : List ℕ) → length (if b then n ∷ ks else ks) ≡ one_if b + length ks
    by true ks = omega arith
    by false ks = omega arith

same_back : (a b : Lock) → same_lock a b ≡ true → same_lock b a ≡ true
same_back a b e = same_refl b a (sym (same_is a b e))

-- ---- the cells of several locks

not_among : (locks : List Lock) (l : Lock) → (Contains locks l → ⊥) → among locks l ≡ false
not_among locks l not = elim (cases_Bool (among locks l)) [ inl e ↦ absurd (not (among_contains locks l e)) | inr e ↦ e ]

one_more : (cells : List Lock) (x : Lock) (xs : List Lock) → (Contains xs x → ⊥) →
    count_by (λ (l : Lock). same_lock l x) cells + count_by (among xs) cells ≤ count_by (among (x ∷ xs)) cells
one_more [] x xs not = omega arith
one_more (l ∷ ls) x xs not =
    let rest = one_more ls x xs not in
    let a = counted_cons (λ (m : Lock). same_lock m x) l ls in
    let b = counted_cons (among xs) l ls in
    let c = counted_cons (among (x ∷ xs)) l ls in
    let part : one_if (same_lock l x) + one_if (among xs l) ≤ one_if (among (x ∷ xs) l) =
    elim (cases_Bool (same_lock l x)) [
      | inl e ↦
          let whole = is_one (among (x ∷ xs) l) (or_left (same_lock x l) (among xs l) (same_back l x e)) in
          let other = is_none (among xs l) (not_among xs l (λ d. not (subst (Contains xs) (same_is l x e) d))) in
          let most = few (same_lock l x) in
          omega (arith, whole, other, most)
      | inr e ↦
          let none = is_none (same_lock l x) e in
          elim (cases_Bool (among xs l)) [
            | inl h ↦
                let whole = is_one (among (x ∷ xs) l) (contains_among (x ∷ xs) l (in_rest x l xs (among_contains xs l h))) in
                let most = few (among xs l) in
                omega (arith, none, whole, most)
            | inr h ↦ (let other = is_none (among xs l) h in omega (arith, none, other))
          ]
    ] in
    omega (arith, rest, a, b, c, part)

distinct_rest : {X : Type 0} (x : X) (xs : List X) → AllPairs ◌≢◌ (x ∷ xs) → AllPairs ◌≢◌ xs
distinct_rest x xs d i j z lt b = d (suc i) (suc j) z (omega (arith, lt)) (omega (arith, b))

-- different locks share no cell: together they have at most as many as there are cells whose lock is one of them
sum_covered : (cells xs : List Lock) → AllPairs ◌≢◌ xs →
    sum_by (λ (lock : Lock). length (cells_of cells lock)) xs ≤ count_by (among xs) cells
sum_covered cells [] d = omega arith
sum_covered cells (x ∷ xs) d =
    let rest = sum_covered cells xs (distinct_rest x xs d) in
    let sum = sum_by-cons (λ (lock : Lock). length (cells_of cells lock)) x xs in
    let size = sized 0 cells x in
    let more = one_more cells x xs (distinct_first x xs d) in
    omega (arith, rest, sum, size, more)

count_most : (p : Lock → Bool) (cells : List Lock) → count_by p cells ≤ length cells
count_most p [] = omega arith
count_most p (l ∷ ls) =
    let rest = count_most p ls in
    let sum = counted_cons p l ls in
    let one = few (p l) in
    omega (arith, rest, sum, one)

-- different locks have together at most all cells
pub locks_within : (cells locks : List Lock) → AllPairs ◌≢◌ locks →
    sum_by (λ (lock : Lock). length (cells_of cells lock)) locks ≤ length cells
locks_within cells locks distinct =
    let sum = sum_covered cells locks distinct in
    let most = count_most (among locks) cells in
    omega (arith, sum, most)

-- ---- the most cells of a class

counted : (b : Bool) (n m : ℕ) → m ≤ (if b then max n m else m)
counted true n m = omega arith
counted false n m = omega arith

counted_here : (n m : ℕ) (b : Bool) → b ≡ true → n ≤ (if b then max n m else m)
counted_here n m true e = omega arith
counted_here n m false e = absurd cc

pub within_most : (cell_locks locks : List Lock) (lock : Lock) (class : ℕ) → Contains locks lock → lock.class ≡ class →
    length (cells_of cell_locks lock) ≤ most_among cell_locks locks class
within_most cells [] lock class (i, lt, e) same = absurd (omega (arith, lt))
within_most cells (l ∷ locks) lock class (zero, lt, e) same =
    let here : l ≡ lock = e in
    let is : (l.class == class) ≡ true = eq-eqb l.class class (ap (λ (x : Lock). x.class) here ∙ same) in
    let most = counted_here (length (cells_of cells l)) (most_among cells locks class) (l.class == class) is in
    subst (λ (x : Lock). length (cells_of cells x) ≤ most_among cells (l ∷ locks) class) here most
within_most cells (l ∷ locks) lock class (suc i, lt, e) same =
    let rest = within_most cells locks lock class (i, omega (arith, lt), e) same in
    let more = counted (l.class == class) (length (cells_of cells l)) (most_among cells locks class) in
    omega (arith, rest, more)

-- ---- the cells under a path

module _ (layout : LayoutOf) where
  abbrev covered : List Lock → ℕ
  covered locks = count_by (among locks) layout.cell_locks

  -- one lock of a class
  one_fits : (lock : Lock) (class : ℕ) → Contains layout.locks lock → lock.class ≡ class →
      covered (lock ∷ []) ≤ most_cells layout class
  one_fits lock class listed same =
      let cells = layout.cell_locks in
      let most = within_most cells layout.locks lock class listed same in
      let size = sized 0 cells lock in
      let one = count_le (among (lock ∷ [])) (λ (l : Lock). same_lock l lock)
      (λ l h. elim (or_cases (same_lock lock l) false h) [ inl e ↦ same_back lock l e | inr e ↦ absurd (true≢false (sym e)) ]) cells in
      omega (arith, most, size, one)

  from_object : (class : ℕ) (o : Option ℕ) →
      ((lock : Lock) → Contains (one_or_none (option_map (object_lock class) o)) lock → Contains layout.locks lock) →
      covered (one_or_none (option_map (object_lock class) o)) ≤ most_cells layout class
  from_object class None listed =
      let none = count_none (among []) (λ l. refl) layout.cell_locks in omega (arith, none)
  from_object class (Some object) listed =
      one_fits (object_lock class object) class (listed (object_lock class object) (in_first (object_lock class object) [])) refl

  from_root : (root : Root) (finals : List ℕ) (class : ℕ) (shape : Shape) (locals : List Value) →
      ((lock : Lock) → Contains (locks_from root finals class shape locals) lock → Contains layout.locks lock) →
      covered (locks_from root finals class shape locals) ≤ most_from layout root class
  from_root GlobalLock finals class shape locals listed =
      one_fits (global_lock class) class (listed (global_lock class) (in_first (global_lock class) [])) refl
  from_root (WholeClass s) finals class shape locals listed =
      count_le (among (locks_of shape class s)) (λ (l : Lock). l.class == class)
      (λ l h. let r = from_map (object_lock class) (members_of shape s) l (among_contains (locks_of shape class s) l h) in
      eq-eqb l.class class (ap (λ (x : Lock). x.class) (sym r.2)))
      layout.cell_locks
  from_root (AtLocal k) finals class shape locals listed = from_object class (object_at shape locals k finals) listed

  module _ (shape : Shape) (locals : List Value) where
    abbrev named : LockPath → List Lock
    named path = locks_named path shape locals

    paths_fit : (paths : List LockPath) →
        ((path : LockPath) (lock : Lock) → Contains paths path → Names path shape locals lock → Contains layout.locks lock) →
        covered (flat_map named paths) ≤ sum_by (cells_under layout) paths
    paths_fit [] listed = let none = count_none (among []) (λ l. refl) layout.cell_locks in omega (arith, none)
    paths_fit (path ∷ paths) listed =
        let rest = paths_fit paths (λ p l c n. listed p l (in_rest path p paths c) n) in
        let first = from_root path.root path.finals path.class shape locals (λ l n. listed path l (in_first path paths) n) in
        let sum = sum_by-cons (cells_under layout) path paths in
        let two = count_two (among (named path ++ flat_map named paths)) (among (named path)) (among (flat_map named paths))
        (λ l h. elim (Contains-append_cases (named path) (flat_map named paths) l (among_contains (named path ++ flat_map named paths) l h)) [
          | inl c ↦ inl (contains_among (named path) l c)
          | inr c ↦ inr (contains_among (flat_map named paths) l c)
        ]) layout.cell_locks in
        omega (arith, rest, first, sum, two)

    -- different locks that these paths name have together at most as many cells as the paths may name
    pub locks_fit : (locks : List Lock) (paths : List LockPath) → AllPairs ◌≢◌ locks →
        ((lock : Lock) → Contains locks lock → Contains (flat_map named paths) lock) →
        ((path : LockPath) (lock : Lock) → Contains paths path → Names path shape locals lock → Contains layout.locks lock) →
        sum_by (λ (lock : Lock). length (cells_of layout.cell_locks lock)) locks ≤ sum_by (cells_under layout) paths
    locks_fit locks paths distinct all listed =
        let sum = sum_covered layout.cell_locks locks distinct in
        let more = count_le (among locks) (among (flat_map named paths))
        (λ l h. contains_among (flat_map named paths) l (all l (among_contains locks l h))) layout.cell_locks in
        let fit = paths_fit paths listed in
        omega (arith, sum, more, fit)
