-- Words are ASCII.
use Rattle.std.proofs.Common.{◌≡◌, ℕ, ◌+◌, ◌<◌, Bool, true, false, cond, take, refl, add-one, add_comm, List, [], ◌∷◌, arith}
use Rattle.std.specs.Prelude.{IsUtf8, IsAscii}
use Rattle.std.specs.List.{list_all, take_while, prefix_len}
use Rattle.std.proofs.lemmas.Bool.Decides.{nat_tests}
use Rattle.std.proofs.lemmas.Str.{IsUtf8-from_ascii}
use Rattle.std.proofs.lemmas.Str.Ascii.{IsAscii-nil, IsAscii-cons}
use Rattle.std.proofs.lemmas.Bool.{and_parts}
use Rattle.report_runs.specs.ExpectationTexts.{is_word_byte}

word_byte_low : (b : ℕ) → is_word_byte b ≡ true → b < 128
word_byte_low b h = grind (arith, nat_tests)

word_ascii : (bs : List ℕ) → list_all is_word_byte bs ≡ true → IsAscii bs
word_ascii [] h = IsAscii-nil
word_ascii (b ∷ bs) h =
    let p = and_parts (is_word_byte b) (list_all is_word_byte bs) h in IsAscii-cons b bs (word_byte_low b p.0) (word_ascii bs p.1)

pub word_utf8 : (bs : List ℕ) → list_all is_word_byte bs ≡ true → IsUtf8 bs
word_utf8 bs h = IsUtf8-from_ascii bs (word_ascii bs h)

-- the elements of the longest front that passes a test pass it
pub front_all : (p : ℕ → Bool) (bs : List ℕ) → list_all p (take_while p bs) ≡ true
front_all p [] = refl
front_all p (b ∷ bs) = turn (p b) refl (front_all p bs)
  where
    turn : (t : Bool) → p b ≡ t → list_all p (take_while p bs) ≡ true →
        list_all p (take (cond t (1 + prefix_len p bs) 0) (b ∷ bs)) ≡ true
    turn true e h = rw (add_comm 1 (prefix_len p bs), add-one (prefix_len p bs)) (rw e h)
    turn false e h = refl
