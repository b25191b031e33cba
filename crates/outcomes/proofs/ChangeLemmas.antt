-- The cells whose values differ from the opening values.
use Rattle.std.proofs.Common.{◌≡◌, ◌∙◌, ℕ, ◌+◌, ◌<◌, ◌≤◌, zero, suc, List, [], ◌∷◌, ◌++◌, length, map, get_or, Bool, true, false}
use Rattle.std.proofs.Common.{cond, Some, None, inl, inr, ap, sym, subst, refl, arith}
use Rattle.std.specs.List.{Contains}
use Rattle.std.specs.List.Sorted.{IsNonDecreasing}
use Rattle.std.proofs.lemmas.Bool.{cases_eq, cases_lt}
use Rattle.std.proofs.lemmas.Bool.Decides.{Decides-int_eq, Decides-eqb}
use Rattle.std.proofs.lemmas.Grind.{get_or_default_zero}
use Rattle.std.proofs.lemmas.List.{append-nil, length-map, get_or-set_same, get_or-set_other, get_or_default, same_lists}
use Rattle.std.proofs.Math.ListN.{length-set}
use Rattle.std.specs.Prelude.{slice_set, slice_index_or}
use Rattle.core_lang.specs.declared.value.Value.{Value}
use Rattle.core_lang.specs.declared.value.Value.TheVariants.{Int, Ref}
use Rattle.meaning.specs.Working.Undo.{undone, IsAmong}
use Rattle.outcomes.specs.declared.outcome.Cells.{Cells}
use Rattle.outcomes.specs.declared.outcome.Cells.TheVariants.{Every, These}
use Rattle.outcomes.specs.declared.state.Change.{Change}
use Rattle.outcomes.specs.Ends.{seen_cells}
use Rattle.outcomes.specs.Working.Changes.{same_value, held, applied, change_at, changes_below, changes_of, AreChanges, AreAmong}

-- ---- values

pub value_is : (a b : Value) → same_value a b ≡ true → a ≡ b
value_is (Int a) (Int b) same = ap (λ n. Int n) ((Decides-int_eq a b).0 same)
value_is (Int a) (Ref b) same = cc
value_is (Ref a) (Int b) same = cc
value_is (Ref None) (Ref None) same = refl
value_is (Ref None) (Ref (Some b)) same = cc
value_is (Ref (Some a)) (Ref None) same = cc
value_is (Ref (Some a)) (Ref (Some b)) same = ap (λ n. Ref (Some n)) ((Decides-eqb a b).0 same)

pub value_same : (a : Value) → same_value a a ≡ true
value_same (Int a) = (Decides-int_eq a a).1 refl
value_same (Ref None) = refl
value_same (Ref (Some a)) = (Decides-eqb a a).1 refl

pub values_same : (a b : Value) → a ≡ b → same_value a b ≡ true
values_same a b is = subst (λ (v : Value). same_value a v ≡ true) is (value_same a)

values_differ_by : (a b : Value) (r : Bool) → same_value a b ≡ r → (a ≡ b → ⊥) → same_value a b ≡ false
values_differ_by a b true is not = absurd (not (value_is a b is))
values_differ_by a b false is not = is

pub values_differ : (a b : Value) → (a ≡ b → ⊥) → same_value a b ≡ false
values_differ a b not = values_differ_by a b (same_value a b) refl not

-- ---- changes that are made

pub applied-append : (xs ys : List Change) (cells : List Value) → applied (xs ++ ys) cells ≡ applied ys (applied xs cells)
applied-append [] ys cells = refl
applied-append (x ∷ xs) ys cells = applied-append xs ys (slice_set cells x.cell x.value)

pub length-applied : (changes : List Change) (cells : List Value) → length (applied changes cells) ≡ length cells
length-applied [] cells = refl
length-applied (c ∷ changes) cells = length-applied changes (slice_set cells c.cell c.value) ∙ length-set cells c.cell c.value

-- the change of one cell, if its value differs
abbrev one_change : Bool → ℕ → Value → List Change
one_change b k c = cond b [] (record { cell = k; value = c } ∷ [])

made_there : (b : Bool) (k : ℕ) (c : Value) (cells : List Value) → k < length cells → (b ≡ true → held cells k ≡ c) →
    held (applied (one_change b k c) cells) k ≡ c
made_there true k c cells within same = same refl
made_there false k c cells within same = get_or-set_same cells k c (Ref None) within

made_elsewhere : (b : Bool) (k j : ℕ) (c : Value) (cells : List Value) → (j ≡ k → ⊥) →
    held (applied (one_change b k c) cells) j ≡ held cells j
made_elsewhere true k j c cells apart = refl
made_elsewhere false k j c cells apart = get_or-set_other cells k j c (Ref None) apart

below_step : (opening cells : List Value) (k j : ℕ) →
    held (applied (changes_below opening cells (suc k)) opening) j
    ≡ held (applied (change_at opening cells k) (applied (changes_below opening cells k) opening)) j
below_step opening cells k j =
    ap (λ (l : List Value). held l j) (applied-append (changes_below opening cells k) (change_at opening cells k) opening)

-- the cells from `k` on have their opening values
kept_above : (opening cells : List Value) (k j : ℕ) → k ≤ j →
    held (applied (changes_below opening cells k) opening) j ≡ held opening j
kept_above opening cells zero j few = refl
kept_above opening cells (suc k) j few =
    below_step opening cells k j
    ∙ made_elsewhere (same_value (held opening k) (held cells k)) k j (held cells k) (applied (changes_below opening cells k) opening) (λ e. omega arith)
    ∙ kept_above opening cells k j (omega arith)

-- the cells before `k` have the values of `cells`
changed_below : (opening cells : List Value) (k j : ℕ) → k ≤ length opening → j < k →
    held (applied (changes_below opening cells k) opening) j ≡ held cells j
changed_below opening cells zero j few below = absurd (omega arith)
changed_below opening cells (suc k) j few below =
    let before = applied (changes_below opening cells k) opening in
    let long : length before ≡ length opening = length-applied (changes_below opening cells k) opening in
    below_step opening cells k j
    ∙ elim (cases_eq j k) [
      | inl here ↦ subst (λ (i : ℕ). held (applied (change_at opening cells k) before) i ≡ held cells i) (sym here)
          (made_there (same_value (held opening k) (held cells k)) k (held cells k) before (omega (arith, long, few))
          (λ same. kept_above opening cells k k (omega arith) ∙ value_is (held opening k) (held cells k) same))
      | inr apart ↦ made_elsewhere (same_value (held opening k) (held cells k)) k j (held cells k) before apart
          ∙ changed_below opening cells k j (omega arith) (omega (arith, below, apart))
    ]

pub all_changed : (opening cells : List Value) → length cells ≡ length opening →
    applied (changes_of opening cells) opening ≡ cells
all_changed opening cells long =
    let there = applied (changes_of opening cells) opening in
    let same : length there ≡ length opening = length-applied (changes_of opening cells) opening in
    same_lists there cells (same ∙ sym long)
    (λ k d within. get_or_default there k d (Ref None) within
    ∙ changed_below opening cells (length opening) k (omega arith) (omega (arith, within, same))
    ∙ get_or_default cells k (Ref None) d (omega (arith, within, same, long)))

pub cells_from : (opening cells : List Value) (changes : List Change) → length cells ≡ length opening →
    changes ≡ changes_of opening cells → applied changes opening ≡ cells
cells_from opening cells changes long is = ap (λ (c : List Change). applied c opening) is ∙ all_changed opening cells long

pub are_changes : (opening cells : List Value) (changes : List Change) → length cells ≡ length opening →
    changes ≡ changes_of opening cells → AreChanges opening changes
are_changes opening cells changes long is = is ∙ ap (changes_of opening) (sym (cells_from opening cells changes long is))

-- ---- cells that have their opening values

pub no_change : (opening cells : List Value) (k : ℕ) → held cells k ≡ held opening k → change_at opening cells k ≡ []
no_change opening cells k same =
    ap (λ (b : Bool). one_change b k (held cells k)) (values_same (held opening k) (held cells k) (sym same))

pub none_from : (opening cells : List Value) (k n : ℕ) → k ≤ n →
    ((j : ℕ) → k ≤ j → j < n → held cells j ≡ held opening j) → changes_below opening cells n ≡ changes_below opening cells k
none_from opening cells k zero few same = let none : 0 ≡ k = omega (arith, few) in ap (changes_below opening cells) none
none_from opening cells k (suc n) few same =
    elim (cases_eq k (suc n)) [
      | inl here ↦ ap (changes_below opening cells) (sym here)
      | inr apart ↦ ap (λ (c : List Change). changes_below opening cells n ++ c) (no_change opening cells n (same n (omega (arith, few, apart)) (omega arith)))
          ∙ append-nil (changes_below opening cells n)
          ∙ none_from opening cells k n (omega (arith, few, apart)) (λ j from below. same j from (omega (arith, below)))
    ]

pub no_changes : (opening : List Value) → changes_of opening opening ≡ []
no_changes opening = none_from opening opening 0 (length opening) (omega arith) (λ j from below. refl)

-- ---- writes that are undone

pub undone_elsewhere : (writes : List (ℕ × Value)) (cells : List Value) (k : ℕ) → (IsAmong k writes → ⊥) →
    held (undone writes cells) k ≡ held cells k
undone_elsewhere [] cells k none = refl
undone_elsewhere (w ∷ writes) cells k none =
    get_or-set_other (undone writes cells) w.0 k w.1 (Ref None) (λ e. none (inl (sym e)))
    ∙ undone_elsewhere writes cells k (λ a. none (inr a))

pub length-undone : (writes : List (ℕ × Value)) (cells : List Value) → length (undone writes cells) ≡ length cells
length-undone [] cells = refl
length-undone (w ∷ writes) cells = length-set (undone writes cells) w.0 w.1 ∙ length-undone writes cells

pub undone-append : (xs ys : List (ℕ × Value)) (cells : List Value) → undone (xs ++ ys) cells ≡ undone xs (undone ys cells)
undone-append [] ys cells = refl
undone-append (x ∷ xs) ys cells = ap (λ (l : List Value). slice_set l x.0 x.1) (undone-append xs ys cells)

pub among_cells : (writes : List (ℕ × Value)) (cell : ℕ) → IsAmong cell writes → Contains (map (λ (w : ℕ × Value). w.0) writes) cell
among_cells [] cell none = absurd none
among_cells (w ∷ writes) cell among =
    elim among [
      | inl here ↦ (0, omega arith, here)
      | inr there ↦ (let rest = among_cells writes cell there in (suc rest.0, omega (arith, rest.1), rest.2))
    ]

-- ---- the cells that were written, in order

-- each of the first `i` written cells that exists is less than `below`
abbrev pub ArePassed : List ℕ → ℕ → ℕ → ℕ → Type 0
ArePassed written n i below = (p : ℕ) → p < i → get_or written p 0 < n → get_or written p 0 < below

-- a cell between those passed and the next written one was not written
not_written : (written : List ℕ) (n i below cell j : ℕ) → ArePassed written n i below →
    ((p : ℕ) → i ≤ p → p < length written → cell ≤ get_or written p 0) → cell ≤ n → below ≤ j → j < cell → Contains written j → ⊥
not_written written n i below cell j passed next few from under there =
    let same : get_or written there.0 0 ≡ j = sym (get_or_default_zero written there.0 j there.1) ∙ there.2 in
    elim (cases_lt there.0 i) [
      | inl before ↦ (let low = passed there.0 before (omega (arith, same, under, few)) in omega (arith, low, same, from))
      | inr after ↦ (let high = next there.0 after there.1 in omega (arith, high, same, under))
    ]

pub same_between : (first then : List (ℕ × Value)) (opening cells : List Value) (written : List ℕ) (i below cell : ℕ) →
    AreAmong first written → AreAmong then written → undone first (undone then cells) ≡ opening →
    ArePassed written (length cells) i below →
    ((p : ℕ) → i ≤ p → p < length written → cell ≤ get_or written p 0) → cell ≤ length cells →
    (j : ℕ) → below ≤ j → j < cell → held cells j ≡ held opening j
same_between first then opening cells written i below cell among among' back passed next few j from under =
    let apart = not_written written (length cells) i below cell j passed next few from under in
    sym (undone_elsewhere then cells j (λ a. apart (among' j a)))
    ∙ sym (undone_elsewhere first (undone then cells) j (λ a. apart (among j a)))
    ∙ ap (λ (l : List Value). held l j) back

abbrev AreBack : List (ℕ × Value) → List (ℕ × Value) → List Value → List Value → Type 0
AreBack first then opening cells = undone first (undone then cells) ≡ opening

-- the next written cell is passed
passed_more : (written : List ℕ) (n i below more cell : ℕ) → ArePassed written n i below → cell ≡ get_or written i 0 → below ≤ more →
    (cell < n → cell < more) → ArePassed written n (i + 1) more
passed_more written n i below more cell passed is few own p before there =
    elim (cases_eq p i) [
      | inl here ↦ (let same : get_or written p 0 ≡ cell = ap (λ (k : ℕ). get_or written k 0) here ∙ sym is in
          let low = own (omega (arith, there, same)) in omega (arith, low, same))
      | inr apart ↦ (let low = passed p (omega (arith, before, apart)) there in omega (arith, low, few))
    ]

pub changes_step : (first then : List (ℕ × Value)) (opening cells : List Value) (written : List ℕ) (i below cell : ℕ) (changes new : List Change) →
    AreAmong first written → AreAmong then written → IsNonDecreasing written → AreBack first then opening cells →
    ArePassed written (length cells) i below → cell ≡ get_or written i 0 → i < length written → below ≤ cell → cell < length cells →
    changes ≡ changes_below opening cells below → new ≡ changes ++ change_at opening cells cell →
    (new ≡ changes_below opening cells (cell + 1)) × ArePassed written (length cells) (i + 1) (cell + 1)
changes_step first then opening cells written i below cell changes new among among' order back passed is within from inside was is_new =
    let next : (p : ℕ) → i ≤ p → p < length written → cell ≤ get_or written p 0 =
    λ p after there. subst (λ (k : ℕ). k ≤ get_or written p 0) (sym is) (order i p 0 after there) in
    let same = same_between first then opening cells written i below cell among among' back passed next (omega (arith, inside)) in
    let one : suc cell ≡ cell + 1 = omega arith in (
      is_new ∙ ap (λ (c : List Change). c ++ change_at opening cells cell) (was ∙ sym (none_from opening cells below cell from same))
          ∙ ap (changes_below opening cells) one,
      passed_more written (length cells) i below (cell + 1) cell passed is (omega (arith, from)) (λ there. omega arith),
    )

pub changes_past : (written : List ℕ) (n i below cell : ℕ) → ArePassed written n i below → cell ≡ get_or written i 0 →
    (cell < n → cell < below) → ArePassed written n (i + 1) below
changes_past written n i below cell passed is own = passed_more written n i below below cell passed is (omega arith) own

pub changes_end : (first then : List (ℕ × Value)) (opening cells : List Value) (written : List ℕ) (i below : ℕ) (changes : List Change) →
    AreAmong first written → AreAmong then written → AreBack first then opening cells →
    ArePassed written (length cells) i below → length written ≤ i → below ≤ length cells → length cells ≡ length opening →
    changes ≡ changes_below opening cells below → changes ≡ changes_of opening cells
changes_end first then opening cells written i below changes among among' back passed all few long was =
    let same = same_between first then opening cells written i below (length cells) among among' back passed
    (λ p after there. absurd (omega (arith, all, after, there))) (omega arith) in
    was ∙ sym (none_from opening cells below (length cells) few same) ∙ ap (changes_below opening cells) long

-- ---- the change of one cell

pub change_is : (opening cells : List Value) (cell : ℕ) (a b : Value) → a ≡ held opening cell → b ≡ held cells cell → (a ≡ b → ⊥) →
    change_at opening cells cell ≡ record { cell = cell; value = b } ∷ []
change_is opening cells cell a b is is' apart =
    let differ = values_differ (held opening cell) (held cells cell) (λ e. apart (is ∙ e ∙ sym is')) in
    ap (λ (r : Bool). one_change r cell (held cells cell)) differ
    ∙ ap (λ (v : Value). record { cell = cell; value = v } ∷ []) (sym is')

pub change_none : (opening cells : List Value) (cell : ℕ) (a b : Value) → a ≡ held opening cell → b ≡ held cells cell → a ≡ b →
    change_at opening cells cell ≡ []
change_none opening cells cell a b is is' same = no_change opening cells cell (sym is' ∙ sym same ∙ is)

-- ---- what an observer sees

pub seen_long : (asked : Cells) (xs ys : List Value) → length xs ≡ length ys → length (seen_cells asked xs) ≡ length (seen_cells asked ys)
seen_long Every xs ys same = same
seen_long (These numbers) xs ys same =
    length-map numbers.items (λ (k : ℕ). slice_index_or xs k (Ref None)) ∙ sym (length-map numbers.items (λ (k : ℕ). slice_index_or ys k (Ref None)))
