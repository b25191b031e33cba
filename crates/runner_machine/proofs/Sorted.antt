-- A sorted list of values of cells.
use Rattle.std.proofs.Common.{◌≡◌, ◌≢◌, ℕ, zero, suc, ◌+◌, ◌≤◌, Bool, true, false, List, [], ◌∷◌, length, Option, Some}
use Rattle.std.proofs.Common.{None, inl, inr, refl, sym, ap, ◌∙◌, arith}
use Rattle.std.specs.Prelude.{slice_get, nat_eq, nat_lt, if◌then◌else◌}
use Rattle.std.specs.List.{Contains}
use Rattle.std.specs.List.Sorted.{IsPermutation, IsNonDecreasingBy}
use Rattle.std.proofs.lemmas.Bool.{ltb-false}
use Rattle.std.proofs.lemmas.Bool.Decides.{eqb_tells}
use Rattle.std.proofs.lemmas.List.Sorted.{Contains-permutation, IsPermutation-sym, length_permutation}
use Rattle.std.proofs.lemmas.Option.{none-some, same_Some}
use Rattle.core_lang.specs.declared.value.Value.{Value}
use Rattle.code.specs.Memory.{value_at, with_value}
use Rattle.runner_machine.specs.Working.Noted.{in_order, EachOnce}
use Rattle.runner_machine.proofs.Lists.{here, past}
use Rattle.runner_machine.proofs.Rising.{same_rising, in_order_rises, in_order_values}
use Rattle.core_lang.specs.Theory.Items.{at_contained}
use Rattle.code.specs.Theory.Values.{same_cell, other_cell}

-- ---- the same values in another order

pub at_value : (xs : List (ℕ × Value)) (k : ℕ) (x : ℕ × Value) → EachOnce xs → slice_get xs k ≡ Some x →
    value_at xs x.0 ≡ Some x.1
at_value [] k x once at = absurd (none-some x at)
at_value (y ∷ ys) zero x once at =
    let same : y ≡ x = same_Some y x at in
    here y ys x.0 (ap (λ (z : ℕ × Value). z.0) same) ∙ ap (λ (z : ℕ × Value). Some z.1) same
at_value (y ∷ ys) (suc k) x once at =
    let there : value_at ys x.0 ≡ Some x.1 = at_value ys k x once.1 at in
    past y ys x.0 (λ e. none-some x.1 (sym once.0 ∙ ap (value_at ys) e ∙ there)) ∙ there

pub value_somewhere : (xs : List (ℕ × Value)) (c : ℕ) (v : Value) → value_at xs c ≡ Some v → Contains xs (c, v)
value_somewhere [] c v is = absurd (none-some v is)
value_somewhere (y ∷ ys) c v is = elim (eqb_tells y.0 c) [
  | inl h ↦ (0, omega arith, ap (λ (k : ℕ). (k, y.1)) h.1 ∙ ap (λ (w : Value). (c, w)) (same_Some y.1 v (sym (here y ys c h.1) ∙ is)))
  | inr h ↦ (let r = value_somewhere ys c v (sym (past y ys c h.1) ∙ is) in (suc r.0, omega (arith, r.1), r.2))
]

pub none_nowhere : (xs : List (ℕ × Value)) (k : ℕ) (x : ℕ × Value) → value_at xs x.0 ≡ None →
    slice_get xs k ≡ Some x → ⊥
none_nowhere [] k x none at = none-some x at
none_nowhere (y ∷ ys) zero x none at =
    let same : y ≡ x = same_Some y x at in
    none-some y.1 (sym none ∙ here y ys x.0 (ap (λ (z : ℕ × Value). z.0) same))
none_nowhere (y ∷ ys) (suc k) x none at = elim (eqb_tells y.0 x.0) [
  | inl h ↦ none-some y.1 (sym none ∙ here y ys x.0 h.1)
  | inr h ↦ none_nowhere ys k x (sym (past y ys x.0 h.1) ∙ none) at
]

permuted_by : (xs ys : List (ℕ × Value)) (c : ℕ) (a b : Option Value) → IsPermutation xs ys → EachOnce xs →
    value_at ys c ≡ a → value_at xs c ≡ b → a ≡ b
permuted_by xs ys c (Some v) b p once e f =
    let at = at_contained xs (c, v) (Contains-permutation ys xs (c, v) (IsPermutation-sym xs ys p) (value_somewhere ys c v e)) in
    sym (at_value xs at.0 (c, v) once at.1) ∙ f
permuted_by xs ys c None None p once e f = refl
permuted_by xs ys c None (Some v) p once e f =
    let at = at_contained ys (c, v) (Contains-permutation xs ys (c, v) p (value_somewhere xs c v f)) in
    absurd (none_nowhere ys at.0 (c, v) e at.1)

-- ---- how long

length_new_by : (lt eq : Bool) (x : ℕ × Value) (xs : List (ℕ × Value)) (c : ℕ) (v : Value) → nat_eq c x.0 ≡ eq →
    value_at (x ∷ xs) c ≡ None →
    (value_at xs c ≡ None → length (with_value xs c v) ≡ length xs + 1) →
    length (if lt then (c, v) ∷ x ∷ xs else if eq then (c, v) ∷ xs else x ∷ with_value xs c v) ≡ length (x ∷ xs) + 1
length_new_by true eq x xs c v e none ih = omega arith
length_new_by false true x xs c v e none ih = absurd (none-some x.1 (sym none ∙ here x xs c (sym (same_cell c x.0 e))))
length_new_by false false x xs c v e none ih =
    omega (arith, ih (sym (past x xs c (λ q. other_cell c x.0 e (sym q))) ∙ none))

length_new : (xs : List (ℕ × Value)) (c : ℕ) (v : Value) → value_at xs c ≡ None →
    length (with_value xs c v) ≡ length xs + 1
length_new [] c v none = omega arith
length_new (x ∷ xs) c v none = length_new_by (nat_lt c x.0) (nat_eq c x.0) x xs c v refl none (length_new xs c v)

length_most_by : (lt eq : Bool) (x : ℕ × Value) (xs : List (ℕ × Value)) (c : ℕ) (v : Value) →
    length (with_value xs c v) ≤ length xs + 1 →
    length (if lt then (c, v) ∷ x ∷ xs else if eq then (c, v) ∷ xs else x ∷ with_value xs c v) ≤ length (x ∷ xs) + 1
length_most_by true eq x xs c v ih = omega arith
length_most_by false true x xs c v ih = omega arith
length_most_by false false x xs c v ih = omega (arith, ih)

length_most : (xs : List (ℕ × Value)) (c : ℕ) (v : Value) → length (with_value xs c v) ≤ length xs + 1
length_most [] c v = omega arith
length_most (x ∷ xs) c v = length_most_by (nat_lt c x.0) (nat_eq c x.0) x xs c v (length_most xs c v)

length_once : (xs : List (ℕ × Value)) → EachOnce xs → length (in_order xs) ≡ length xs
length_once [] once = refl
length_once (x ∷ xs) once =
    omega (arith, length_new (in_order xs) x.0 x.1 (in_order_values xs x.0 ∙ once.0), length_once xs once.1)

pub length_in_order : (xs : List (ℕ × Value)) → length (in_order xs) ≤ length xs
length_in_order [] = omega arith
length_in_order (x ∷ xs) = omega (arith, length_most (in_order xs) x.0 x.1, length_in_order xs)

-- ---- a list that is in order stays as it is

put_front_by : (lt eq : Bool) (y z : ℕ × Value) (zs : List (ℕ × Value)) → nat_lt y.0 z.0 ≡ lt → nat_eq y.0 z.0 ≡ eq →
    y.0 ≤ z.0 →
    length (if lt then (y.0, y.1) ∷ z ∷ zs else if eq then (y.0, y.1) ∷ zs else z ∷ with_value zs y.0 y.1) ≡ length (y ∷ z ∷ zs) →
    (if lt then (y.0, y.1) ∷ z ∷ zs else if eq then (y.0, y.1) ∷ zs else z ∷ with_value zs y.0 y.1) ≡ y ∷ z ∷ zs
put_front_by true eq y z zs l e le long = refl
put_front_by false true y z zs l e le long = absurd (omega (arith, long))
put_front_by false false y z zs l e le long =
    let ne : y.0 ≢ z.0 = other_cell y.0 z.0 e in
    let ge : z.0 ≤ y.0 = ltb-false y.0 z.0 l in
    absurd (omega (arith, le, ge, ne))

put_front : (y : ℕ × Value) (ys : List (ℕ × Value)) → IsNonDecreasingBy (λ (x : ℕ × Value). x.0) (y ∷ ys) →
    length (with_value ys y.0 y.1) ≡ length (y ∷ ys) → with_value ys y.0 y.1 ≡ y ∷ ys
put_front y [] up long = refl
put_front y (z ∷ zs) up long = put_front_by (nat_lt y.0 z.0) (nat_eq y.0 z.0) y z zs refl refl (up 0 1 y (omega arith) (omega arith)) long

as_it_is : (ys : List (ℕ × Value)) → IsNonDecreasingBy (λ (x : ℕ × Value). x.0) ys →
    length (in_order ys) ≡ length ys → in_order ys ≡ ys
as_it_is [] up long = refl
as_it_is (y ∷ ys) up long =
    let most : length (with_value (in_order ys) y.0 y.1) ≤ length (in_order ys) + 1 = length_most (in_order ys) y.0 y.1 in
    let few : length (in_order ys) ≤ length ys = length_in_order ys in
    let same : in_order ys ≡ ys = as_it_is ys (λ i j d le lt. up (suc i) (suc j) d (omega (arith, le)) (omega (arith, lt))) (omega (arith, most, few, long)) in
    ap (λ (zs : List (ℕ × Value)). with_value zs y.0 y.1) same
    ∙ put_front y ys up (sym (ap (λ (zs : List (ℕ × Value)). length (with_value zs y.0 y.1)) same) ∙ long)

-- the sorted list is the one in order
pub sorted_in_order : (xs ys : List (ℕ × Value)) → IsPermutation xs ys → EachOnce xs →
    IsNonDecreasingBy (λ (x : ℕ × Value). x.0) ys → ys ≡ in_order xs
sorted_in_order xs ys p once up =
    let same : in_order ys ≡ in_order xs = same_rising 0 (in_order ys) (in_order xs) (in_order_rises ys) (in_order_rises xs)
    (λ c. in_order_values ys c ∙ permuted_by xs ys c (value_at ys c) (value_at xs c) p once refl refl ∙ sym (in_order_values xs c)) in
    sym (as_it_is ys up (ap length same ∙ length_once xs once ∙ sym (length_permutation xs ys p))) ∙ same
