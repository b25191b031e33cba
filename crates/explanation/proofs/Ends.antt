-- The end of a word.
use Rattle.std.proofs.Common.{◌≡◌, ◌∙◌, ◌-◌, ◌+◌, ◌<◌, ◌≤◌, ℕ, List, take, drop, length, max, min, refl, sym, ap}
use Rattle.std.proofs.Common.{arith, ⊎_elim}
use Rattle.std.specs.List.{prefix_len}
use Rattle.std.proofs.lemmas.Bool.{cases_lt}
use Rattle.std.proofs.lemmas.List.{take_all, length-drop}
use Rattle.source.specs.Texts.{is_name_byte}
use Rattle.explanation.specs.Json.{WORD, word_length, end_of}

-- taking at most a word's length of bytes does not depend on what follows the word
take_least : (xs : List ℕ) → take (min (length xs) WORD) xs ≡ take WORD xs
take_least xs =
    ⊎_elim
    (λ (short : length xs < WORD).
    let least : min (length xs) WORD ≡ length xs = omega arith in
    rw least (take_all (length xs) xs (omega arith) ∙ sym (take_all WORD xs (omega arith))))
    (λ (long : WORD ≤ length xs). let least : min (length xs) WORD ≡ WORD = omega arith in rw least refl)
    (cases_lt (length xs) WORD)

pub rest_is : (text : List ℕ) (at : ℕ) → take (length text - at) (drop at text) ≡ drop at text
rest_is text at = take_all (length text - at) (drop at text) (omega (arith, length-drop at text))

pub ends : (text : List ℕ) (start at w : ℕ) → at ≡ min start (length text) →
    w ≡ prefix_len is_name_byte (take (min (length (drop at text)) WORD) (drop at text)) →
    length text - length (drop at text) + min (max w 1) (length (drop at text)) ≡ end_of text start
ends text start at w is counted =
    let whole : w ≡ word_length text at = counted ∙ ap (prefix_len is_name_byte) (take_least (drop at text)) in
    let long = length-drop at text in
    rw (← is, ← whole) (omega (arith, is, long))
