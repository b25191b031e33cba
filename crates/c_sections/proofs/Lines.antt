-- Lines in the pieces in which they are written.
use Rattle.std.proofs.Common.{◌≡◌, ℕ, List, ◌++◌, append_assoc}

pub joined_word : (a p i n b l c g : List ℕ) → a ++ (p ++ i) ++ n ++ b ++ l ++ (c ++ g) ≡ a ++ (p ++ (i ++ n)) ++ b ++ l ++ c ++ g
joined_word a p i n b l c g = simp append_assoc

-- a text with one number in brackets
pub one_number : (a h d q z : List ℕ) → (a ++ h) ++ (d ++ (q ++ z)) ≡ a ++ (h ++ d ++ q) ++ z
one_number a h d q z = simp append_assoc

-- a line with a test of a variable with a number in brackets
pub tested_line : (x y h d q t r z : List ℕ) → ((x ++ y ++ h) ++ (d ++ (q ++ t)) ++ r) ++ z ≡ x ++ (y ++ (h ++ d ++ q) ++ t ++ r) ++ z
tested_line x y h d q t r z = simp append_assoc
