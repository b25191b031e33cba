-- A text that is a single word.
use Rattle.std.proofs.Common.{◌≡◌, ℕ, Bool, cond, List, [], ◌∷◌, length, ap, arith}
use Rattle.std.proofs.lemmas.Bool.{le-ltb}
use Rattle.std.proofs.lemmas.List.{take_all}
use Rattle.std.specs.List.{after_first, position_or_len}
use Rattle.painting.specs.Painted.{is_space, first_word, behind_word}

pub one_word : (text : List ℕ) → position_or_len is_space text ≡ length text → first_word text ≡ text
one_word text none = take_all (position_or_len is_space text) text (omega (arith, none))

pub nothing_behind : (text : List ℕ) (told : List ℕ → List ℕ) → position_or_len is_space text ≡ length text →
    behind_word text told ≡ []
nothing_behind text told none =
    ap (λ (b : Bool). cond b (32 ∷ told (after_first is_space text)) []) (le-ltb (position_or_len is_space text) (length text) (omega (arith, none)))
