-- A step of a loop that writes texts of numbered items: the written text and the text left are together the whole text.
use Rattle.std.proofs.Common.{◌≡◌, ◌∙◌, ◌+◌, ◌<◌, ℕ, zero, suc, List, [], ◌∷◌, ◌++◌, length, drop, append_assoc, ap, sym, refl, arith}
use Rattle.code.specs.Listing.{text_at}
use Rattle.c_statements.specs.Acquires.{numbered}

-- the same for numbered items, of which the first has the number `k`
numbered-step : {A : Type 0} (text : ℕ → A → List ℕ) (k i : ℕ) (xs : List A) → i < length xs →
    numbered text k (drop i xs) ≡ text_at (text k) xs i ++ numbered text (k + 1) (drop (i + 1) xs)
numbered-step text k i [] h = absurd (omega arith)
numbered-step text k zero (x ∷ xs) h = refl
numbered-step text k (suc i) (x ∷ xs) h =
    let less : i < length xs = omega arith in
    let e : suc (i + 1) ≡ suc i + 1 = omega arith in
    numbered-step text k i xs less ∙ ap (λ n. text_at (text k) xs i ++ numbered text (k + 1) (drop n (x ∷ xs))) e

pub numbered_moved : {A : Type 0} (text : ℕ → A → List ℕ) (i : ℕ) (xs : List A) (before new whole : List ℕ) → i < length xs →
    new ≡ before ++ text_at (text i) xs i → before ++ numbered text i (drop i xs) ≡ whole →
    new ++ numbered text (i + 1) (drop (i + 1) xs) ≡ whole
numbered_moved text i xs before new whole h added kept =
    ap (λ b. b ++ numbered text (i + 1) (drop (i + 1) xs)) added
    ∙ append_assoc before (text_at (text i) xs i) (numbered text (i + 1) (drop (i + 1) xs))
    ∙ ap (λ t. before ++ t) (sym (numbered-step text i i xs h)) ∙ kept
