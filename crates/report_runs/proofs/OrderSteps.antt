-- One more piece of a text.
use Rattle.std.proofs.Common.{◌≡◌, ◌∙◌, ℕ, List, ◌++◌, ap, append_assoc}

-- the first piece of the remaining text is written
pub piece_more : (before piece rest whole after : List ℕ) → after ≡ before ++ piece → before ++ (piece ++ rest) ≡ whole →
    after ++ rest ≡ whole
piece_more before piece rest whole after adds all = ap (λ (b : List ℕ). b ++ rest) adds ∙ append_assoc before piece rest ∙ all
