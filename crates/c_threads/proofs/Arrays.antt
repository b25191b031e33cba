-- Places of arrays, and the values that a loop over them finds and leaves there.
--
-- How the laws of locks are proved: each loop of an acquire is one lemma over a list cut where the loop stands, with
-- the part before it reversed (here and in `proofs/Loops`): drops from the last to the first, insertions, calls, notes.
-- A run of one class therefore comes to what is asked for of that class (`proofs/ClassRuns`), and runs of rising ranks
-- together are all of it (`proofs/Orders`, `proofs/Acquires`). That the runs of a list are so is the order of the
-- placement (`proofs/LockRuns`). A whole class is the only path of its class (`proofs/Alone`), its locks are taken in the
-- order of the members, which is that in which they are asked for (`proofs/Members`), and its note stands for all of
-- them (`proofs/Whole`). The address of a path is its lock since its final references lead by types
-- (`proofs/Addresses`). A noted path keeps its lock: a point that binds its root, after one where the path is listed,
-- would make an edge that the ranks forbid (`proofs/Roots`). A section of `worlds` therefore carries its notes from
-- point to point as it carries its run (`proofs/Standing`).
use Rattle.std.proofs.Common.{◌≡◌, ℕ, zero, suc, ◌+◌, List, [], ◌∷◌, ◌++◌, map, length, Option, Some, None}
use Rattle.std.proofs.Common.{slice_get, set, refl, ap, ◌∙◌, arith}
use Rattle.std.proofs.lemmas.Option.{none-some}
use Rattle.std.specs.List.{range_with_len}
use Rattle.core_lang.specs.Typing.{lookup}
use Rattle.core_lang.specs.Theory.Items.{map_at, still_at}
use Rattle.locks.specs.declared.lock.Lock.{Lock}
use Rattle.c_threads.specs.Locking.{Pointer, Locking, m_at, set_m, for_each}

-- ---- what is in front, the last first, put in front of the rest again

abbrev pub turned : {A : Type 0} → List A → List A → List A
turned [] back = back
turned (x ∷ front) back = turned front (x ∷ back)

pub get_turned : {A : Type 0} (front back : List A) (i : ℕ) →
    slice_get (turned front back) (length front + i) ≡ slice_get back i
get_turned [] back i = ap (slice_get back) (omega arith)
get_turned {A = A} (x ∷ front) back i =
    let e : length (x ∷ front) + i ≡ length front + suc i = omega arith in
    ap (slice_get (turned front (x ∷ back))) e ∙ get_turned front (x ∷ back) (suc i)

pub set_turned : {A : Type 0} (front back : List A) (i : ℕ) (y : A) →
    set (turned front back) (length front + i) y ≡ turned front (set back i y)
set_turned [] back i y = let e : 0 + i ≡ i = omega arith in ap (λ k. set back k y) e
set_turned {A = A} (x ∷ front) back i y =
    let e : length (x ∷ front) + i ≡ length front + suc i = omega arith in
    ap (λ k. set (turned front (x ∷ back)) k y) e ∙ set_turned front (x ∷ back) (suc i) y

pub first_turned : {A : Type 0} (front : List A) (x : A) (back : List A) →
    slice_get (turned front (x ∷ back)) (length front) ≡ Some x
first_turned front x back =
    let e : length front ≡ length front + 0 = omega arith in
    ap (slice_get (turned front (x ∷ back))) e ∙ get_turned front (x ∷ back) 0

pub set_first : {A : Type 0} (front : List A) (x y : A) (back : List A) →
    set (turned front (x ∷ back)) (length front) y ≡ turned front (y ∷ back)
set_first front x y back =
    let e : length front ≡ length front + 0 = omega arith in
    ap (λ k. set (turned front (x ∷ back)) k y) e ∙ set_turned front (x ∷ back) 0 y

pub second_turned : {A : Type 0} (front : List A) (x y : A) (back : List A) →
    slice_get (turned front (x ∷ y ∷ back)) (length front + 1) ≡ Some y
second_turned front x y back = get_turned front (x ∷ y ∷ back) 1

pub set_second : {A : Type 0} (front : List A) (x y z : A) (back : List A) →
    set (turned front (x ∷ y ∷ back)) (length front + 1) z ≡ turned front (x ∷ z ∷ back)
set_second front x y z back = set_turned front (x ∷ y ∷ back) 1 z

pub length_turned : {A : Type 0} (front back : List A) → length (turned front back) ≡ length front + length back
length_turned [] back = omega arith
length_turned (x ∷ front) back = let e = length_turned front (x ∷ back) in omega (arith, e)

-- ---- an array of which the first places are set

-- what the first places hold, and the places after them
abbrev pub filled : List Pointer → List (Option Pointer) → List (Option Pointer)
filled ps rest = map (λ (p : Pointer). Some p) ps ++ rest

pub filled_at : (ps : List Pointer) (rest : List (Option Pointer)) (j : ℕ) (p : Pointer) → slice_get ps j ≡ Some p →
    slice_get (filled ps rest) j ≡ Some (Some p)
filled_at ps rest j p e =
    still_at (map (λ (q : Pointer). Some q) ps) rest j (Some p) (map_at (λ (q : Pointer). Some q) ps j p e)

pub filled_set : (ps : List Pointer) (rest : List (Option Pointer)) (j : ℕ) (p q : Pointer) → slice_get ps j ≡ Some p →
    set (filled ps rest) j (Some q) ≡ filled (set ps j q) rest
filled_set [] rest j p q e = absurd (none-some p e)
filled_set (x ∷ ps) rest zero p q e = refl
filled_set (x ∷ ps) rest (suc j) p q e = ap (λ t. Some x ∷ t) (filled_set ps rest j p q e)

pub length_filled : (ps : List Pointer) (rest : List (Option Pointer)) →
    length (filled ps rest) ≡ length ps + length rest
length_filled [] rest = omega arith
length_filled (p ∷ ps) rest = let e = length_filled ps rest in omega (arith, e)

-- ---- the variables, by what they hold

-- h, the first places of m, the places after them, and the calls made so far
abbrev pub holding : List Pointer → List Pointer → List (Option Pointer) → List Lock → Locking
holding notes ps rest calls = record { notes = notes; asked = filled ps rest; calls = calls }

pub m_holds : (notes ps : List Pointer) (rest : List (Option Pointer)) (calls : List Lock) (j : ℕ) (p : Pointer) →
    slice_get ps j ≡ Some p → m_at (holding notes ps rest calls) j ≡ Some p
m_holds notes ps rest calls j p e = ap (λ o. lookup o (λ (x : Option Pointer). x)) (filled_at ps rest j p e)

pub m_set : (notes ps : List Pointer) (rest : List (Option Pointer)) (calls : List Lock) (j : ℕ) (p q : Pointer) →
    slice_get ps j ≡ Some p →
    set_m (holding notes ps rest calls) j q ≡ Some (holding notes (set ps j q) rest calls)
m_set notes ps rest calls j p q e =
    let x = holding notes ps rest calls in
    ap (λ o. lookup o (λ (old : Option Pointer). Some (record x { asked = set (filled ps rest) j (Some q) })))
    (filled_at ps rest j p e)
    ∙ ap (λ m. Some (record x { asked = m })) (filled_set ps rest j p q e)

-- ---- loops

pub each_one : (does : ℕ → Locking → Option Locking) (i : ℕ) (is : List ℕ) (x y : Locking) → does i x ≡ Some y →
    for_each does (i ∷ is) x ≡ for_each does is y
each_one does i is x y e = ap (λ o. lookup o (for_each does is)) e

-- two loops whose bodies do the same
pub each_same : (f g : ℕ → Locking → Option Locking) → ((i : ℕ) (x : Locking) → f i x ≡ g i x) → (is : List ℕ)
    (x : Locking) → for_each f is x ≡ for_each g is x
each_same f g same [] x = refl
each_same f g same (i ∷ is) x =
    ap (λ o. lookup o (for_each f is)) (same i x) ∙ on (g i x) (each_same f g same is)
  where
    on : (o : Option Locking) → ((y : Locking) → for_each f is y ≡ for_each g is y) →
        lookup o (for_each f is) ≡ lookup o (for_each g is)
    on (Some y) rest = rest y
    on None rest = refl

-- what follows a place is read in turn
pub read_behind : (notes front back : List Pointer) (rest : List (Option Pointer)) (calls : List Lock) →
    map (m_at (holding notes (turned front back) rest calls)) (range_with_len (length front) (length back))
    ≡ map (λ (p : Pointer). Some p) back
read_behind notes front [] rest calls = refl
read_behind notes front (p ∷ back) rest calls =
    let x = holding notes (turned front (p ∷ back)) rest calls in
    let e : length front + 1 ≡ length (p ∷ front) = omega arith in
    ap (λ o. o ∷ map (m_at x) (range_with_len (length front + 1) (length back)))
    (m_holds notes (turned front (p ∷ back)) rest calls (length front) p (first_turned front p back))
    ∙ ap (λ k. Some p ∷ map (m_at x) (range_with_len k (length back))) e
    ∙ ap (λ t. Some p ∷ t) (read_behind notes (p ∷ front) back rest calls)
