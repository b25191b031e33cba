-- A step of a loop that writes texts one after another: the written text and the text left are together the whole text.
use Rattle.std.proofs.Common.{◌≡◌, ◌∙◌, ◌+◌, ◌-◌, ◌<◌, ℕ, zero, suc, List, ◌++◌, append_assoc, ap, sym, arith}
use Rattle.std.specs.List.{flat_map, range_with_len}
use Rattle.c_statements.specs.Acquires.{upward, downward}

module _ (text : ℕ → List ℕ) where
  upward-step : (i to : ℕ) → i < to → upward text i to ≡ text i ++ upward text (i + 1) to
  upward-step i to h =
      let e : to - i ≡ suc (to - (i + 1)) = omega arith in
      ap (λ n. flat_map text (range_with_len i n)) e

  pub upward_moved : (i to : ℕ) (before new whole : List ℕ) → i < to → new ≡ before ++ text i →
      before ++ upward text i to ≡ whole → new ++ upward text (i + 1) to ≡ whole
  upward_moved i to before new whole h added kept =
      ap (λ b. b ++ upward text (i + 1) to) added ∙ append_assoc before (text i) (upward text (i + 1) to)
      ∙ ap (λ t. before ++ t) (sym (upward-step i to h)) ∙ kept

  downward-step : (k : ℕ) → 0 < k → downward text k ≡ text (k - 1) ++ downward text (k - 1)
  downward-step zero h = absurd (omega arith)
  downward-step (suc k) h = let e : suc k - 1 ≡ k = omega arith in ap (λ j. text j ++ downward text j) (sym e)

  pub downward_moved : (k : ℕ) (before new whole : List ℕ) → 0 < k → new ≡ before ++ text (k - 1) →
      before ++ downward text k ≡ whole → new ++ downward text (k - 1) ≡ whole
  downward_moved k before new whole h added kept =
      ap (λ b. b ++ downward text (k - 1)) added ∙ append_assoc before (text (k - 1)) (downward text (k - 1))
      ∙ ap (λ t. before ++ t) (sym (downward-step k h)) ∙ kept
