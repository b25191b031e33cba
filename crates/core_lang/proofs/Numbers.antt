-- The results of the checked operators of 64 bits.
use Rattle.std.proofs.Common.{◌≡◌, zero, suc, ◌≢◌, ◌<◌, ◌^◌, ℤ, pos, negsuc, true, false, Option, Some, None}
use Rattle.std.proofs.Common.{SomeIff, Ok, Err, FitsSigned, w64, refl, sym, ap, ◌∙◌, arith, cond, ⊎_elim}
use Rattle.std.proofs.lemmas.Bool.Decides.{nat_tests}
use Rattle.std.proofs.lemmas.Bool.{cases_lt}
use Rattle.core_lang.specs.declared.value.Value.TheVariants.{Int}
use Rattle.core_lang.specs.declared.value.Trap.TheVariants.{Overflow}
use Rattle.core_lang.specs.declared.value.Failure.TheVariants.{Trap}
use Rattle.core_lang.specs.Arithmetic.{fits, number_of, is_zero}
use Rattle.core_lang.specs.Working.Fitted.{fitted_of}

pub fits_is : (z : ℤ) → FitsSigned w64 z → fits z ≡ true
fits_is (pos n) h = let lt : n < 2 ^ 63 = h.sfits in grind (arith, nat_tests)
fits_is (negsuc n) h = let lt : n < 2 ^ 63 = h.sfits in grind (arith, nat_tests)

pub fits_not : (z : ℤ) → (FitsSigned w64 z → ⊥) → fits z ≡ false
fits_not (pos n) h =
    ⊎_elim (λ lt. absurd (h (record { sfits = lt }))) (λ le. grind (arith, nat_tests)) (cases_lt n (2 ^ 63))
fits_not (negsuc n) h =
    ⊎_elim (λ lt. absurd (h (record { sfits = lt }))) (λ le. grind (arith, nat_tests)) (cases_lt n (2 ^ 63))

pub fitted_of-number : (r : Option ℤ) (z : ℤ) → SomeIff r (FitsSigned w64 z) z → fitted_of r ≡ number_of z
fitted_of-number (Some n) z h =
    ap (λ m. Ok (Int m)) h.1 ∙ sym (ap (λ b. cond b (Ok (Int z)) (Err (Trap Overflow))) (fits_is z h.0))
fitted_of-number None z h = sym (ap (λ b. cond b (Ok (Int z)) (Err (Trap Overflow))) (fits_not z h))

pub is_zero-not : (z : ℤ) → z ≢ pos 0 → is_zero z ≡ false
is_zero-not (pos zero) h = absurd (h refl)
is_zero-not (pos (suc n)) h = grind (arith, nat_tests)
is_zero-not (negsuc n) h = refl

pub ruleset numbers = (fitted_of-number, is_zero-not)
