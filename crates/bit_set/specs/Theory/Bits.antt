-- The bits of numbers, one at a time.
use Rattle.std.proofs.Common.{◌≡◌, ℕ, ◌*◌, ◌%◌, ◌^◌, ◌<◌, max, Bool, true, false, ◌||◌, inl, inr, refl, sym, ap, ◌∙◌}
use Rattle.std.proofs.Common.{arith}
use Rattle.std.specs.Prelude.{◌==◌, bit_or}
use Rattle.std.specs.Int.{bit_at, Width}
use mir.Val.{bits}
use Rattle.std.proofs.lemmas.Nat.Bits.{bit_at_or, bit_at-lt, bit_at_set_same, bit_at_set_other}
use Rattle.std.proofs.lemmas.Bool.{cases_eq, or_right, eq-eqb, ne_eqb}
use Rattle.std.proofs.lemmas.Bool.Decides.{nat_tests}

abbrev pub bit : ℕ → ℕ → Bool
bit n i = bit_at n i == 1

small_or : (x y : ℕ) → x < 2 → y < 2 → (max x y == 1) ≡ (x == 1 || y == 1)
small_or x y hx hy = grind (arith, nat_tests)

pub bit_or_is : (a b i : ℕ) → bit (bit_or a b) i ≡ (bit a i || bit b i)
bit_or_is a b i = ap (λ x. x == 1) (bit_at_or a b i) ∙ small_or (bit_at a i) (bit_at b i) (bit_at-lt a i) (bit_at-lt b i)

pub or_none : (b : Bool) → b ≡ (b || false)
or_none true = refl
or_none false = refl

-- the bits of a number after one more bit of its width is set
pub bit_with : (w : Width) (n k : ℕ) → k < bits w → (j : ℕ) →
    bit (bit_or n (1 * 2 ^ k % 2 ^ bits w)) j ≡ (bit n j || (j == k))
bit_with w n k h j =
    elim (cases_eq j k) [
      | inl e ↦ ap (λ x. bit (bit_or n (1 * 2 ^ k % 2 ^ bits w)) x) e ∙ ap (λ x. x == 1) (bit_at_set_same w n k h) ∙ sym (or_right (bit n j) (j == k) (eq-eqb j k e))
      | inr ne ↦ ap (λ x. x == 1) (bit_at_set_other w n k h j ne) ∙ or_none (bit n j) ∙ ap (λ x. bit n j || x) (sym (ne_eqb j k ne))
    ]
