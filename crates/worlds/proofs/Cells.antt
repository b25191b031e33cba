-- Cells that move between a world and its sections.
use Rattle.std.proofs.Common.{◌≡◌, ◌⊎◌, ℕ, zero, suc, ◌+◌, Bool, true, false, if◌then◌else◌, List, [], ◌∷◌, ◌++◌}
use Rattle.std.proofs.Common.{length, map, Option, Some, None, slice_get, set, refl, sym, ap, ◌∙◌, subst, arith, inl}
use Rattle.std.proofs.Common.{inr, nat_eq, true≢false}
use Rattle.std.proofs.lemmas.Bool.{eqb-true, eq-eqb, ne_eqb, cases_Bool, cases_eq, cond-true, cond-false, or_cases}
use Rattle.std.proofs.lemmas.Bool.{or_left, or_right}
use Rattle.std.proofs.lemmas.List.{length-set}
use Rattle.core_lang.specs.declared.value.Value.{Value}
use Rattle.core_lang.specs.Theory.Items.{set_other}
use Rattle.locks.specs.declared.lock.Lock.{Lock}
use Rattle.layout.specs.LockCells.{cells_from, cells_of}
use Rattle.locks.specs.Locks.{same_lock, among}
use Rattle.code.specs.Memory.{value_at, overwritten, Agrees}
use Rattle.worlds.specs.Worlds.{with_taken, taken, without, with_back}
use Rattle.worlds.proofs.Places.{get_set_same, get_set_is}
use Rattle.locks.specs.Theory.Order.{same_is, same_refl}
use Rattle.code.specs.Theory.Values.{value_left, value_right}

-- ---- locks

pub among_more : (xs ys : List Lock) (l : Lock) → among xs l ≡ true → among (xs ++ ys) l ≡ true
among_more [] ys l h = absurd (true≢false (sym h))
among_more (x ∷ xs) ys l h = elim (or_cases (same_lock x l) (among xs l) h) [
  | inl e ↦ or_left (same_lock x l) (among (xs ++ ys) l) e
  | inr e ↦ or_right (same_lock x l) (among (xs ++ ys) l) (among_more xs ys l e)
]

pub among_last : (xs : List Lock) (l : Lock) → among (xs ++ l ∷ []) l ≡ true
among_last [] l = or_left (same_lock l l) false (same_refl l l refl)
among_last (x ∷ xs) l = or_right (same_lock x l) (among (xs ++ l ∷ []) l) (among_last xs l)

pub among_push : (xs : List Lock) (k l : Lock) → among (xs ++ k ∷ []) l ≡ true → (among xs l ≡ true) ⊎ (k ≡ l)
among_push [] k l h = elim (or_cases (same_lock k l) false h) [
  | inl e ↦ inr (same_is k l e)
  | inr e ↦ absurd (true≢false (sym e))
]
among_push (x ∷ xs) k l h = elim (or_cases (same_lock x l) (among (xs ++ k ∷ []) l) h) [
  | inl e ↦ inl (or_left (same_lock x l) (among xs l) e)
  | inr e ↦ elim (among_push xs k l e) [
    | inl q ↦ inl (or_right (same_lock x l) (among xs l) q)
    | inr q ↦ inr q
  ]
]

-- ---- numbers among numbers

pub Among : List ℕ → ℕ → Type 0
Among [] c = ⊥
Among (x ∷ xs) c = (x ≡ c) ⊎ Among xs c

-- the cells of a lock are those that it protects
cells_has : (n k : ℕ) (locks : List Lock) (lock : Lock) → slice_get locks k ≡ Some lock →
    Among (cells_from n locks lock) (n + k)
unfolding Among
cells_has n k [] lock h = absurd cc
cells_has n zero (l ∷ ls) lock h =
    let e : l ≡ lock = cc in
    let zero_more : n ≡ n + 0 = omega arith in
    subst (λ xs. Among xs (n + 0)) (sym (cond-true (same_lock l lock) (n ∷ cells_from (n + 1) ls lock) (cells_from (n + 1) ls lock) (same_refl l lock e)))
    (inl zero_more)
cells_has n (suc k) (l ∷ ls) lock h =
    let r = cells_has (n + 1) k ls lock h in
    let shift : n + 1 + k ≡ n + suc k = omega arith in
    either_way (same_lock l lock) (subst (Among (cells_from (n + 1) ls lock)) shift r) where
      either_way : (b : Bool) → Among (cells_from (n + 1) ls lock) (n + suc k) →
          Among (if b then n ∷ cells_from (n + 1) ls lock else cells_from (n + 1) ls lock) (n + suc k)
      either_way true r = inr r
      either_way false r = r

record IsAt (n : ℕ) (locks : List Lock) (lock : Lock) (c : ℕ) : Type 0 where
  place : ℕ
  number : c ≡ n + place
  is : slice_get locks place ≡ Some lock

cells_only : (n : ℕ) (locks : List Lock) (lock : Lock) (c : ℕ) → Among (cells_from n locks lock) c → IsAt n locks lock c
unfolding Among
cells_only n [] lock c h = absurd h
cells_only n (l ∷ ls) lock c h =
    by_lock (same_lock l lock) refl h (λ r. let x = cells_only (n + 1) ls lock c r in later x) where
      later : IsAt (n + 1) ls lock c → IsAt n (l ∷ ls) lock c
      later x = let e = x.number in record { place = suc x.place; number = omega (arith, e); is = x.is }

      by_lock : (b : Bool) → same_lock l lock ≡ b →
          Among (if b then n ∷ cells_from (n + 1) ls lock else cells_from (n + 1) ls lock) c →
          (Among (cells_from (n + 1) ls lock) c → IsAt n (l ∷ ls) lock c) → IsAt n (l ∷ ls) lock c
      by_lock true e (inl here) go =
          record { place = 0; number = omega (arith, here); is = ap (λ (x : Lock). Some x) (same_is l lock e) }
      by_lock true e (inr r) go = go r
      by_lock false e r go = go r

pub cells_of_has : (locks : List Lock) (lock : Lock) (c : ℕ) → slice_get locks c ≡ Some lock →
    Among (cells_of locks lock) c
cells_of_has locks lock c h =
    let e : 0 + c ≡ c = omega arith in subst (Among (cells_of locks lock)) e (cells_has 0 c locks lock h)

pub cells_of_only : (locks : List Lock) (lock : Lock) (c : ℕ) → Among (cells_of locks lock) c →
    slice_get locks c ≡ Some lock
cells_of_only locks lock c h =
    let x = cells_only 0 locks lock c h in
    let n = x.number in
    let e : c ≡ x.place = omega (arith, n) in ap (slice_get locks) e ∙ x.is

-- ---- values of cells

pub some_or_none : {X : Type 0} (x : Option X) → ((v : X) × (x ≡ Some v)) ⊎ (x ≡ None)
some_or_none None = inr refl
some_or_none (Some v) = inl (v, refl)

pub value_cases : (xs ys : List (ℕ × Value)) (c : ℕ) (v : Value) → value_at (xs ++ ys) c ≡ Some v →
    (value_at xs c ≡ Some v) ⊎ (value_at ys c ≡ Some v)
value_cases xs ys c v h = elim (some_or_none (value_at xs c)) [
  | inl s ↦ inl (let same : Some s.0 ≡ Some v = sym (value_left xs ys c s.0 s.1) ∙ h in s.1 ∙ same)
  | inr n ↦ inr (sym (value_right xs ys c n) ∙ h)
]

-- ---- cells that are taken

taken_one : (d c : ℕ) (x : Option (Option Value)) (rest : List (ℕ × Value)) (v : Value) →
    value_at (with_taken d x rest) c ≡ Some v →
    ((d ≡ c) × (x ≡ Some (Some v))) ⊎ (value_at rest c ≡ Some v)
taken_one d c None rest v h = inr h
taken_one d c (Some None) rest v h = inr h
taken_one d c (Some (Some w)) rest v h = elim (cases_Bool (nat_eq d c)) [
  | inl e ↦ inl (eqb-true d c e, ap (λ (y : Option Value). Some y) (sym (cond-true (nat_eq d c) (Some w) (value_at rest c) e) ∙ h))
  | inr e ↦ inr (sym (cond-false (nat_eq d c) (Some w) (value_at rest c) e) ∙ h)
]

pub taken_only : (cells : List (Option Value)) (cs : List ℕ) (c : ℕ) (v : Value) →
    value_at (taken cells cs) c ≡ Some v →
    Among cs c × (slice_get cells c ≡ Some (Some v))
unfolding Among
taken_only cells [] c v h = absurd cc
taken_only cells (d ∷ ds) c v h = elim (taken_one d c (slice_get cells d) (taken cells ds) v h) [
  | inl e ↦ (inl e.0, ap (slice_get cells) (sym e.0) ∙ e.1)
  | inr r ↦ (let x = taken_only cells ds c v r in (inr x.0, x.1))
]

skips_one : (d c : ℕ) (x : Option (Option Value)) (rest : List (ℕ × Value)) (v : Value) →
    ((w : Value) → d ≡ c → x ≡ Some (Some w) → w ≡ v) → value_at rest c ≡ Some v → value_at (with_taken d x rest) c ≡ Some v
skips_one d c None rest v same h = h
skips_one d c (Some None) rest v same h = h
skips_one d c (Some (Some w)) rest v same h = elim (cases_Bool (nat_eq d c)) [
  | inl e ↦ cond-true (nat_eq d c) (Some w) (value_at rest c) e ∙ ap (λ (y : Value). Some y) (same w (eqb-true d c e) refl)
  | inr e ↦ cond-false (nat_eq d c) (Some w) (value_at rest c) e ∙ h
]

pub taken_has : (cells : List (Option Value)) (cs : List ℕ) (c : ℕ) (v : Value) → Among cs c →
    slice_get cells c ≡ Some (Some v) →
    value_at (taken cells cs) c ≡ Some v
unfolding Among
taken_has cells [] c v a h = absurd a
taken_has cells (d ∷ ds) c v (inl e) h =
    ap (λ x. value_at (with_taken d x (taken cells ds)) c) (ap (slice_get cells) e ∙ h)
    ∙ cond-true (nat_eq d c) (Some v) (value_at (taken cells ds) c) (eq-eqb d c e)
taken_has cells (d ∷ ds) c v (inr a) h =
    skips_one d c (slice_get cells d) (taken cells ds) v
    (λ w e is. (let same : Some (Some w) ≡ Some (Some v) = sym is ∙ (ap (slice_get cells) e ∙ h) in cc same))
    (taken_has cells ds c v a h)

pub length-without : (cells : List (Option Value)) (cs : List ℕ) → length (without cells cs) ≡ length cells
length-without cells [] = refl
length-without cells (c ∷ cs) = length-set (without cells cs) c None ∙ length-without cells cs

-- cells that were removed, and cells that stay
pub without_some : (cells : List (Option Value)) (cs : List ℕ) (c : ℕ) (v : Value) →
    slice_get (without cells cs) c ≡ Some (Some v) →
    slice_get cells c ≡ Some (Some v)
without_some cells [] c v h = h
without_some cells (d ∷ ds) c v h = elim (cases_eq d c) [
  | inl e ↦ absurd (let none : None ≡ Some v = get_set_is (without cells ds) d None (Some v) (ap (slice_get (set (without cells ds) d None)) e ∙ h) in cc none)
  | inr ne ↦ without_some cells ds c v (sym (set_other (without cells ds) d c None ne) ∙ h)
]

pub without_none : (cells : List (Option Value)) (cs : List ℕ) (c : ℕ) → slice_get cells c ≡ Some None →
    slice_get (without cells cs) c ≡ Some None
without_none cells [] c h = h
without_none cells (d ∷ ds) c h = elim (cases_eq d c) [
  | inl e ↦ ap (slice_get (set (without cells ds) d None)) (sym e)
      ∙ get_set_same (without cells ds) d None None (ap (slice_get (without cells ds)) e ∙ without_none cells ds c h)
  | inr ne ↦ set_other (without cells ds) d c None ne ∙ without_none cells ds c h
]

pub without_away : (cells : List (Option Value)) (cs : List ℕ) (c : ℕ) (x : Option Value) → Among cs c →
    slice_get cells c ≡ Some x →
    slice_get (without cells cs) c ≡ Some None
unfolding Among
without_away cells [] c x a h = absurd a
without_away cells (d ∷ ds) c x (inr a) h = elim (cases_eq d c) [
  | inl e ↦ ap (slice_get (set (without cells ds) d None)) (sym e)
      ∙ get_set_same (without cells ds) d None None (ap (slice_get (without cells ds)) e ∙ without_away cells ds c x a h)
  | inr ne ↦ set_other (without cells ds) d c None ne ∙ without_away cells ds c x a h
]
without_away cells (d ∷ ds) c x (inl e) h =
    let y = stays cells ds c x h in
    ap (slice_get (set (without cells ds) d None)) (sym e) ∙ get_set_same (without cells ds) d y.0 None (ap (slice_get (without cells ds)) e ∙ y.1) where
      stays : (cells : List (Option Value)) (cs : List ℕ) (c : ℕ) (x : Option Value) → slice_get cells c ≡ Some x →
          (y : Option Value) × (slice_get (without cells cs) c ≡ Some y)
      stays cells [] c x h = (x, h)
      stays cells (k ∷ ks) c x h = elim (cases_eq k c) [
        | inl q ↦ (let r = stays cells ks c x h in
            (None, ap (slice_get (set (without cells ks) k None)) (sym q) ∙ get_set_same (without cells ks) k r.0 None (ap (slice_get (without cells ks)) q ∙ r.1)))
        | inr ne ↦ (let r = stays cells ks c x h in (r.0, set_other (without cells ks) k c None ne ∙ r.1))
      ]

-- a cell that the world does not have is one of these, or was not there before
pub without_none_cases : (cells : List (Option Value)) (cs : List ℕ) (c : ℕ) →
    slice_get (without cells cs) c ≡ Some None →
    Among cs c ⊎ (slice_get cells c ≡ Some None)
unfolding Among
without_none_cases cells [] c h = inr h
without_none_cases cells (d ∷ ds) c h = elim (cases_eq d c) [
  | inl e ↦ inl (inl e)
  | inr ne ↦ elim (without_none_cases cells ds c (sym (set_other (without cells ds) d c None ne) ∙ h)) [
    | inl a ↦ inl (inr a)
    | inr q ↦ inr q
  ]
]

-- ---- cells that come back

pub length-with_back : (cells : List (Option Value)) (xs : List (ℕ × Value)) →
    length (with_back cells xs) ≡ length cells
length-with_back cells [] = refl
length-with_back cells (x ∷ xs) = length-set (with_back cells xs) x.0 (Some x.1) ∙ length-with_back cells xs

pub back_other : (cells : List (Option Value)) (xs : List (ℕ × Value)) (c : ℕ) → value_at xs c ≡ None →
    slice_get (with_back cells xs) c ≡ slice_get cells c
back_other cells [] c h = refl
back_other cells (x ∷ xs) c h = elim (cases_eq x.0 c) [
  | inl e ↦ absurd (let bad : Some x.1 ≡ None = sym (cond-true (nat_eq x.0 c) (Some x.1) (value_at xs c) (eq-eqb x.0 c e)) ∙ h in cc bad)
  | inr ne ↦ set_other (with_back cells xs) x.0 c (Some x.1) ne
      ∙ back_other cells xs c (sym (cond-false (nat_eq x.0 c) (Some x.1) (value_at xs c) (ne_eqb x.0 c ne)) ∙ h)
]

pub back_some : (cells : List (Option Value)) (xs : List (ℕ × Value)) (c : ℕ) (v : Value) →
    slice_get (with_back cells xs) c ≡ Some (Some v) →
    (value_at xs c ≡ Some v) ⊎ ((value_at xs c ≡ None) × (slice_get cells c ≡ Some (Some v)))
back_some cells [] c v h = inr (refl, h)
back_some cells (x ∷ xs) c v h = elim (cases_eq x.0 c) [
  | inl e ↦ (let same : Some x.1 ≡ Some v = get_set_is (with_back cells xs) x.0 (Some x.1) (Some v) (ap (slice_get (set (with_back cells xs) x.0 (Some x.1))) e ∙ h) in
      inl (cond-true (nat_eq x.0 c) (Some x.1) (value_at xs c) (eq-eqb x.0 c e) ∙ same))
  | inr ne ↦ elim (back_some cells xs c v (sym (set_other (with_back cells xs) x.0 c (Some x.1) ne) ∙ h)) [
    | inl q ↦ inl (cond-false (nat_eq x.0 c) (Some x.1) (value_at xs c) (ne_eqb x.0 c ne) ∙ q)
    | inr q ↦ inr (cond-false (nat_eq x.0 c) (Some x.1) (value_at xs c) (ne_eqb x.0 c ne) ∙ q.0, q.1)
  ]
]

pub back_none : (cells : List (Option Value)) (xs : List (ℕ × Value)) (c : ℕ) →
    slice_get (with_back cells xs) c ≡ Some None →
    (value_at xs c ≡ None) × (slice_get cells c ≡ Some None)
back_none cells [] c h = (refl, h)
back_none cells (x ∷ xs) c h = elim (cases_eq x.0 c) [
  | inl e ↦ absurd (let bad : Some x.1 ≡ None = get_set_is (with_back cells xs) x.0 (Some x.1) None (ap (slice_get (set (with_back cells xs) x.0 (Some x.1))) e ∙ h) in cc bad)
  | inr ne ↦ (let r = back_none cells xs c (sym (set_other (with_back cells xs) x.0 c (Some x.1) ne) ∙ h) in
      (cond-false (nat_eq x.0 c) (Some x.1) (value_at xs c) (ne_eqb x.0 c ne) ∙ r.0, r.1))
]

-- ---- heaps

set_cong : (xs ys : List Value) (i j : ℕ) (v : Value) → slice_get xs j ≡ slice_get ys j →
    slice_get (set xs i v) j ≡ slice_get (set ys i v) j
set_cong [] [] i j v e = refl
set_cong [] (y ∷ ys) i zero v e = absurd cc
set_cong [] (y ∷ ys) zero (suc j) v e = e
set_cong [] (y ∷ ys) (suc i) (suc j) v e = set_cong [] ys i j v e
set_cong (x ∷ xs) [] i zero v e = absurd cc
set_cong (x ∷ xs) [] zero (suc j) v e = e
set_cong (x ∷ xs) [] (suc i) (suc j) v e = set_cong xs [] i j v e
set_cong (x ∷ xs) (y ∷ ys) zero zero v e = refl
set_cong (x ∷ xs) (y ∷ ys) zero (suc j) v e = e
set_cong (x ∷ xs) (y ∷ ys) (suc i) zero v e = e
set_cong (x ∷ xs) (y ∷ ys) (suc i) (suc j) v e = set_cong xs ys i j v e

-- heaps that agree at a cell agree there when they are overwritten
pub overwritten_cong : (h k : List Value) (ws : List (ℕ × Value)) (c : ℕ) → slice_get h c ≡ slice_get k c →
    slice_get (overwritten h ws) c ≡ slice_get (overwritten k ws) c
overwritten_cong h k [] c e = e
overwritten_cong h k (w ∷ ws) c e = set_cong (overwritten h ws) (overwritten k ws) w.0 c w.1 (overwritten_cong h k ws c e)

-- a cell with a value still has one after another value is put in front
pub seen_before : (x : ℕ × Value) (xs : List (ℕ × Value)) (c : ℕ) (v : Value) → value_at xs c ≡ Some v →
    (w : Value) × (value_at (x ∷ xs) c ≡ Some w)
seen_before x xs c v h = elim (cases_Bool (nat_eq x.0 c)) [
  | inl e ↦ (x.1, cond-true (nat_eq x.0 c) (Some x.1) (value_at xs c) e)
  | inr e ↦ (v, cond-false (nat_eq x.0 c) (Some x.1) (value_at xs c) e ∙ h)
]

-- reads of cells that keep their values agree
pub agrees_kept : (h k : List Value) (rs : List (ℕ × Value)) →
    ((c : ℕ) (v : Value) → value_at rs c ≡ Some v → slice_get k c ≡ slice_get h c) →
    Agrees h rs → Agrees k rs
agrees_kept h k [] same g = tt
agrees_kept h k (r ∷ rs) same g = (
  same r.0 r.1 (cond-true (nat_eq r.0 r.0) (Some r.1) (value_at rs r.0) (eq-eqb r.0 r.0 refl)) ∙ g.0,
  agrees_kept h k rs (λ c v e. let s = seen_before r rs c v e in same c s.0 s.1) g.1,
)

-- a cell that has a value is one of the cells
pub key_only : (xs : List (ℕ × Value)) (c : ℕ) (v : Value) → value_at xs c ≡ Some v →
    Among (map (λ (x : ℕ × Value). x.0) xs) c
unfolding Among
key_only [] c v h = absurd cc
key_only (x ∷ xs) c v h = elim (cases_eq x.0 c) [
  | inl e ↦ inl e
  | inr ne ↦ inr (key_only xs c v (sym (cond-false (nat_eq x.0 c) (Some x.1) (value_at xs c) (ne_eqb x.0 c ne)) ∙ h))
]

pub key_has : (xs : List (ℕ × Value)) (c : ℕ) → Among (map (λ (x : ℕ × Value). x.0) xs) c →
    (v : Value) × (value_at xs c ≡ Some v)
unfolding Among
key_has [] c a = absurd a
key_has (x ∷ xs) c a = elim (cases_eq x.0 c) [
  | inl e ↦ (x.1, cond-true (nat_eq x.0 c) (Some x.1) (value_at xs c) (eq-eqb x.0 c e))
  | inr ne ↦ elim a [
    | inl e ↦ absurd (ne e)
    | inr more ↦ (let rest = key_has xs c more in
        (rest.0, cond-false (nat_eq x.0 c) (Some x.1) (value_at xs c) (ne_eqb x.0 c ne) ∙ rest.1))
  ]
]
