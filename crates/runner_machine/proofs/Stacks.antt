use Rattle.std.specs.Prelude.{◌≡◌, ◌<◌, ◌≤◌, ◌+◌, ℕ, zero, suc, List, ◌∷◌, length, get_or, slice_get, slice_set, drop}
use Rattle.std.specs.Prelude.{Some, None}
use Rattle.std.proofs.Common.{refl, sym, ap, ◌∙◌, arith, add-one}
use Rattle.std.proofs.lemmas.List.{get_or-set_same, get_or-set_other}
use Rattle.core_lang.specs.declared.value.Value.{Value}
use Rattle.core_lang.specs.declared.value.Value.TheVariants.{Ref}
use Rattle.runner_machine.specs.Working.Operands.{downward}

pub length-downward : (values : List Value) (n : ℕ) → length (downward values n) ≡ n
length-downward values zero = refl
length-downward values (suc n) = ap suc (length-downward values n)

-- a value above these does not change them
pub downward-set : (values : List Value) (i n : ℕ) (v : Value) → n ≤ i →
    downward (slice_set values i v) n ≡ downward values n
downward-set values i zero v le = refl
downward-set values i (suc n) v le =
    let other : n ≡ i → ⊥ = λ e. omega arith in
    let rest : downward (slice_set values i v) n ≡ downward values n = downward-set values i n v (omega arith) in
    ap (λ x. x ∷ downward (slice_set values i v) n) (get_or-set_other values i n v (Ref None) other)
    ∙ ap (λ xs. get_or values n (Ref None) ∷ xs) rest

-- the value at the depth is the top of the stack that is one deeper
pub pushed_is : (values : List Value) (n : ℕ) (v : Value) → n < length values →
    downward (slice_set values n v) (n + 1) ≡ v ∷ downward values n
pushed_is values n v lt =
    ap (downward (slice_set values n v)) (add-one n)
    ∙ ap (λ x. x ∷ downward (slice_set values n v) n) (get_or-set_same values n v (Ref None) lt)
    ∙ ap (λ xs. v ∷ xs) (downward-set values n n v (omega arith))

pub top_set : (values : List Value) (n k : ℕ) (v : Value) → n < length values → k ≡ suc n →
    downward (slice_set values n v) k ≡ v ∷ drop 1 (downward values k)
top_set values n k v lt e =
    ap (downward (slice_set values n v)) e
    ∙ ap (λ x. x ∷ downward (slice_set values n v) n) (get_or-set_same values n v (Ref None) lt)
    ∙ ap (λ xs. v ∷ xs) (downward-set values n n v (omega arith))
    ∙ sym (ap (λ j. v ∷ drop 1 (downward values j)) e)

pub second_is : (values : List Value) (n k : ℕ) → k ≡ suc (suc n) →
    slice_get (downward values k) 1 ≡ Some (get_or values n (Ref None))
second_is values n k e = ap (λ j. slice_get (downward values j) 1) e
