-- The first number that passes.
use Rattle.std.proofs.Common.{◌≡◌, ◌∙◌, ℕ, zero, suc, ◌+◌, ◌<◌, Bool, true, false, Option, Some, None, refl, sym, ap, add-one, arith, inl, inr}
use Rattle.std.specs.Prelude.{if◌then◌else◌}
use Rattle.std.specs.Option.{option_or}
use Rattle.std.proofs.lemmas.Bool.{cases_lt}
use Rattle.lsp_texts.specs.Declarations.{first}

pub begins : (test : ℕ → Bool) → first test 0 ≡ None
unfolding first
begins test = refl

step : (test : ℕ → Bool) (n : ℕ) → first test (suc n) ≡ option_or (first test n) (if test n then Some n else None)
unfolding first
step test n = refl

behind_none : (test : ℕ → Bool) (n : ℕ) (b : Bool) → first test n ≡ None → test n ≡ b → first test (suc n) ≡ (if b then Some n else None)
behind_none test n b none is =
    step test n ∙ ap (λ o. option_or o (if test n then Some n else None)) none ∙ ap (λ (t : Bool). if t then Some n else None) is

pub none_more : (test : ℕ → Bool) (n : ℕ) → first test n ≡ None → test n ≡ false → first test (n + 1) ≡ None
none_more test n none failed = ap (first test) (add-one n) ∙ behind_none test n false none failed

pub found_before : (test : ℕ → Bool) (k m : ℕ) → first test k ≡ None → test k ≡ true → k < m → Some k ≡ first test m
found_before test k zero none passed below = absurd (omega arith)
found_before test k (suc m) none passed below = elim (cases_lt k m) [
  | inl within ↦
      sym (step test m ∙ ap (λ o. option_or o (if test m then Some m else None)) (sym (found_before test k m none passed within)))
  | inr past ↦
      let same : k ≡ m = omega arith in
      sym (ap (λ j. first test (suc j)) (sym same) ∙ behind_none test k true none passed)
]
