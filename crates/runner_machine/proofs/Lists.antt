-- Lists, and the first value of a cell.
use Rattle.std.proofs.Common.{◌≡◌, ◌≢◌, ℕ, zero, suc, ◌+◌, List, [], ◌∷◌, ◌++◌, length, Some, None, inl, inr, refl, sym}
use Rattle.std.proofs.Common.{ap, ◌∙◌, arith}
use Rattle.std.specs.Prelude.{slice_get, if◌then◌else◌}
use Rattle.std.specs.List.{Contains}
use Rattle.std.proofs.lemmas.Bool.Decides.{eqb_tells}
use Rattle.std.proofs.lemmas.List.Elements.{Contains-append_cases}
use Rattle.std.proofs.lemmas.Option.{none-some}
use Rattle.core_lang.specs.declared.value.Value.{Value}
use Rattle.code.specs.Memory.{value_at, with_changed}
use Rattle.core_lang.specs.Theory.Items.{in_rest}

-- ---- the items of lists

pub first : {X : Type 0} (y : X) (ys : List X) (x : X) → y ≡ x → Contains (y ∷ ys) x
first y ys x e = (0, omega arith, e)

pub get_right : {X : Type 0} (xs ys : List X) (i n : ℕ) → i ≡ length xs + n → slice_get (xs ++ ys) i ≡ slice_get ys n
get_right [] ys i n e = ap (slice_get ys) (let same : i ≡ n = omega (arith, e) in same)
get_right (z ∷ xs) ys zero n e = absurd (omega (arith, e))
get_right (z ∷ xs) ys (suc i) n e = get_right xs ys i n (omega (arith, e))

-- ---- numbers that occur once

-- no number occurs twice
abbrev pub Distinct : List ℕ → Type 0
Distinct [] = Unit {0}
Distinct (c ∷ cs) = (Contains cs c → ⊥) × Distinct cs

pub distinct_append : (xs ys : List ℕ) → Distinct xs → Distinct ys → ((c : ℕ) → Contains xs c → Contains ys c → ⊥) →
    Distinct (xs ++ ys)
distinct_append [] ys d e apart = e
distinct_append (x ∷ xs) ys d e apart = (
  λ has. elim (Contains-append_cases xs ys x has) [ inl h ↦ d.0 h | inr h ↦ apart x (first x xs x refl) h ],
  distinct_append xs ys d.1 e (λ c a b. apart c (in_rest x c xs a) b),
)

-- ---- the value of a cell

pub here : (x : ℕ × Value) (xs : List (ℕ × Value)) (c : ℕ) → x.0 ≡ c → value_at (x ∷ xs) c ≡ Some x.1
here x xs c e =
    elim (eqb_tells x.0 c) [ inl h ↦ ap (λ b. if b then Some x.1 else value_at xs c) h.0 | inr h ↦ absurd (h.1 e) ]

pub past : (x : ℕ × Value) (xs : List (ℕ × Value)) (c : ℕ) → x.0 ≢ c → value_at (x ∷ xs) c ≡ value_at xs c
past x xs c ne =
    elim (eqb_tells x.0 c) [ inl h ↦ absurd (ne h.1) | inr h ↦ ap (λ b. if b then Some x.1 else value_at xs c) h.0 ]

-- ---- a cell's value changed

changed_here : (x : ℕ × Value) (xs : List (ℕ × Value)) (c : ℕ) (v : Value) → x.0 ≡ c →
    with_changed (x ∷ xs) c v ≡ (c, v) ∷ xs
changed_here x xs c v e =
    elim (eqb_tells x.0 c) [ inl h ↦ ap (λ b. if b then (c, v) ∷ xs else x ∷ with_changed xs c v) h.0 | inr h ↦ absurd (h.1 e) ]

changed_past : (x : ℕ × Value) (xs : List (ℕ × Value)) (c : ℕ) (v : Value) → x.0 ≢ c →
    with_changed (x ∷ xs) c v ≡ x ∷ with_changed xs c v
changed_past x xs c v ne =
    elim (eqb_tells x.0 c) [ inl h ↦ absurd (ne h.1) | inr h ↦ ap (λ b. if b then (c, v) ∷ xs else x ∷ with_changed xs c v) h.0 ]

pub changed_left : (xs ys : List (ℕ × Value)) (c : ℕ) (w v : Value) → value_at xs c ≡ Some w →
    with_changed (xs ++ ys) c v ≡ with_changed xs c v ++ ys
changed_left [] ys c w v e = absurd (none-some w e)
changed_left (x ∷ xs) ys c w v e = elim (eqb_tells x.0 c) [
  | inl h ↦ changed_here x (xs ++ ys) c v h.1 ∙ ap (λ zs. zs ++ ys) (sym (changed_here x xs c v h.1))
  | inr h ↦ changed_past x (xs ++ ys) c v h.1
      ∙ ap (λ zs. x ∷ zs) (changed_left xs ys c w v (sym (past x xs c h.1) ∙ e))
      ∙ ap (λ zs. zs ++ ys) (sym (changed_past x xs c v h.1))
]

pub changed_right : (xs ys : List (ℕ × Value)) (c : ℕ) (v : Value) → value_at xs c ≡ None →
    with_changed (xs ++ ys) c v ≡ xs ++ with_changed ys c v
changed_right [] ys c v e = refl
changed_right (x ∷ xs) ys c v e = elim (eqb_tells x.0 c) [
  | inl h ↦ absurd (none-some x.1 (sym e ∙ here x xs c h.1))
  | inr h ↦ changed_past x (xs ++ ys) c v h.1 ∙ ap (λ zs. x ∷ zs) (changed_right xs ys c v (sym (past x xs c h.1) ∙ e))
]
