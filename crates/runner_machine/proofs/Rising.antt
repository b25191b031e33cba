-- Values of cells in order of the cells' numbers.
use Rattle.std.proofs.Common.{◌≡◌, ◌≢◌, ℕ, ◌+◌, ◌<◌, ◌≤◌, Bool, true, false, List, [], ◌∷◌, Some, None, inl, inr, refl}
use Rattle.std.proofs.Common.{sym, ap, ◌∙◌, arith}
use Rattle.std.specs.Prelude.{nat_eq, nat_lt, if◌then◌else◌}
use Rattle.std.proofs.lemmas.Bool.{ltb-true, ltb-false, cases_order}
use Rattle.std.proofs.lemmas.Bool.Decides.{eqb_tells}
use Rattle.std.proofs.lemmas.Option.{none-some, same_Some}
use Rattle.core_lang.specs.declared.value.Value.{Value}
use Rattle.code.specs.Memory.{value_at, with_value}
use Rattle.code.specs.Theory.Values.{same_cell, other_cell, set_same, set_other}
use Rattle.runner_machine.specs.Working.Noted.{in_order, EachOnce}
use Rattle.runner_machine.proofs.Lists.{here, past}

-- ---- rising cells

-- each cell is at least n, and greater than those before it
abbrev pub Rise : ℕ → List (ℕ × Value) → Type 0
Rise n [] = Unit {0}
Rise n (x ∷ xs) = (n ≤ x.0) × Rise (x.0 + 1) xs

rise_lower : (n m : ℕ) (xs : List (ℕ × Value)) → m ≤ n → Rise n xs → Rise m xs
rise_lower n m [] le r = tt
rise_lower n m (x ∷ xs) le r = (omega (arith, le, r.0), r.1)

none_below : (n c : ℕ) (xs : List (ℕ × Value)) → Rise n xs → c < n → value_at xs c ≡ None
none_below n c [] r lt = refl
none_below n c (x ∷ xs) r lt =
    past x xs c (λ e. absurd (omega (arith, e, r.0, lt))) ∙ none_below (x.0 + 1) c xs r.1 (omega (arith, r.0, lt))

rise_with_by : (n : ℕ) (lt eq : Bool) (x : ℕ × Value) (xs : List (ℕ × Value)) (c : ℕ) (v : Value) →
    nat_lt c x.0 ≡ lt → nat_eq c x.0 ≡ eq → n ≤ c →
    Rise n (x ∷ xs) → (x.0 + 1 ≤ c → Rise (x.0 + 1) (with_value xs c v)) →
    Rise n (if lt then (c, v) ∷ x ∷ xs else if eq then (c, v) ∷ xs else x ∷ with_value xs c v)
rise_with_by n true eq x xs c v l e le r ih = (le, (omega (arith, ltb-true c x.0 l), r.1))
rise_with_by n false true x xs c v l e le r ih =
    let same : c ≡ x.0 = same_cell c x.0 e in (le, rise_lower (x.0 + 1) (c + 1) xs (omega (arith, same)) r.1)
rise_with_by n false false x xs c v l e le r ih =
    let ne : c ≢ x.0 = other_cell c x.0 e in
    let ge : x.0 ≤ c = ltb-false c x.0 l in
    (r.0, ih (omega (arith, ge, ne)))

rise_with : (n : ℕ) (xs : List (ℕ × Value)) (c : ℕ) (v : Value) → n ≤ c → Rise n xs → Rise n (with_value xs c v)
rise_with n [] c v le r = (le, tt)
rise_with n (x ∷ xs) c v le r =
    rise_with_by n (nat_lt c x.0) (nat_eq c x.0) x xs c v refl refl le r (λ more. rise_with (x.0 + 1) xs c v more r.1)

rest_at : (x y : ℕ × Value) (xs ys : List (ℕ × Value)) (c : ℕ) → x.0 ≡ y.0 → Rise (x.0 + 1) xs → Rise (x.0 + 1) ys →
    value_at (x ∷ xs) c ≡ value_at (y ∷ ys) c → value_at xs c ≡ value_at ys c
rest_at x y xs ys c e r s same = elim (eqb_tells x.0 c) [
  | inl h ↦ none_below (x.0 + 1) c xs r (omega (arith, h.1)) ∙ sym (none_below (x.0 + 1) c ys s (omega (arith, h.1)))
  | inr h ↦ sym (past x xs c h.1) ∙ same ∙ past y ys c (λ q. h.1 (e ∙ q))
]

-- a rising list does not have a cell that comes first in another list with a greater first cell
never_first : (x y : ℕ × Value) (xs ys : List (ℕ × Value)) → x.0 < y.0 → Rise (y.0 + 1) ys →
    value_at (x ∷ xs) x.0 ≡ value_at (y ∷ ys) x.0 → ⊥
never_first x y xs ys lt s same =
    none-some x.1 (sym (none_below y.0 x.0 (y ∷ ys) (omega arith, s) lt) ∙ sym same ∙ here x xs x.0 refl)

-- two rising lists with the same values are the same
pub same_rising : (n : ℕ) (xs ys : List (ℕ × Value)) → Rise n xs → Rise n ys →
    ((c : ℕ) → value_at xs c ≡ value_at ys c) → xs ≡ ys
same_rising n [] [] r s same = refl
same_rising n [] (y ∷ ys) r s same = absurd (none-some y.1 (same y.0 ∙ here y ys y.0 refl))
same_rising n (x ∷ xs) [] r s same = absurd (none-some x.1 (sym (same x.0) ∙ here x xs x.0 refl))
same_rising n (x ∷ xs) (y ∷ ys) r s same = elim (cases_order x.0 y.0) [
  | inl e ↦ (
      let value : x.1 ≡ y.1 = same_Some x.1 y.1 (sym (here x xs x.0 refl) ∙ same x.0 ∙ here y ys x.0 (sym e)) in
      let up : Rise (x.0 + 1) ys = rise_lower (y.0 + 1) (x.0 + 1) ys (omega (arith, e)) s.1 in
      let rest : xs ≡ ys = same_rising (x.0 + 1) xs ys r.1 up (λ c. rest_at x y xs ys c e r.1 up (same c)) in
      ap (λ (k : ℕ). (k, x.1) ∷ xs) e ∙ ap (λ (v : Value). (y.0, v) ∷ xs) value ∙ ap (λ (zs : List (ℕ × Value)). y ∷ zs) rest)
  | inr o ↦ elim o [
    | inl lt ↦ absurd (never_first x y xs ys lt s.1 (same x.0))
    | inr gt ↦ absurd (never_first y x ys xs gt r.1 (sym (same y.0)))
  ]
]

-- ---- a list put in order

pub in_order_rises : (xs : List (ℕ × Value)) → Rise 0 (in_order xs)
in_order_rises [] = tt
in_order_rises (x ∷ xs) = rise_with 0 (in_order xs) x.0 x.1 (omega arith) (in_order_rises xs)

pub in_order_values : (xs : List (ℕ × Value)) (c : ℕ) → value_at (in_order xs) c ≡ value_at xs c
in_order_values [] c = refl
in_order_values (x ∷ xs) c = elim (eqb_tells x.0 c) [
  | inl h ↦ ap (λ (k : ℕ). value_at (with_value (in_order xs) k x.1) c) h.1 ∙ set_same (in_order xs) c x.1 ∙ sym (here x xs c h.1)
  | inr h ↦ set_other (in_order xs) x.0 c x.1 h.1 ∙ in_order_values xs c ∙ sym (past x xs c h.1)
]

-- putting a list in order twice is the same as once
pub in_order_twice : (xs : List (ℕ × Value)) → in_order (in_order xs) ≡ in_order xs
in_order_twice xs =
    same_rising 0 (in_order (in_order xs)) (in_order xs) (in_order_rises (in_order xs)) (in_order_rises xs) (in_order_values (in_order xs))

rising_once : (n : ℕ) (xs : List (ℕ × Value)) → Rise n xs → EachOnce xs
rising_once n [] r = tt
rising_once n (x ∷ xs) r = (none_below (x.0 + 1) x.0 xs r.1 (omega arith), rising_once (x.0 + 1) xs r.1)

-- a list in order has each cell once
pub in_order_once : (xs : List (ℕ × Value)) → EachOnce (in_order xs)
in_order_once xs = rising_once 0 (in_order xs) (in_order_rises xs)

-- lists that differ in the value of one cell differ in it after they are put in order
pub set_in_order : (xs ys : List (ℕ × Value)) (c : ℕ) (v : Value) → value_at ys c ≡ Some v →
    ((d : ℕ) → c ≢ d → value_at ys d ≡ value_at xs d) →
    in_order ys ≡ with_value (in_order xs) c v
set_in_order xs ys c v at others =
    same_rising 0 (in_order ys) (with_value (in_order xs) c v) (in_order_rises ys) (rise_with 0 (in_order xs) c v (omega arith) (in_order_rises xs))
    (λ d. elim (eqb_tells c d) [
      | inl h ↦ in_order_values ys d ∙ ap (value_at ys) (sym h.1) ∙ at ∙ sym (set_same (in_order xs) c v) ∙ ap (value_at (with_value (in_order xs) c v)) h.1
      | inr h ↦ in_order_values ys d ∙ others d h.1 ∙ sym (in_order_values xs d) ∙ sym (set_other (in_order xs) c d v h.1)
    ])
