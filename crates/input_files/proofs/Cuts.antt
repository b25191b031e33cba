-- The pieces between bytes of one kind.
use Rattle.std.proofs.Common.{◌≡◌, ◌∙◌, ◌<◌, ◌≤◌, ◌+◌, ℕ, Bool, true, false, List, [], ◌∷◌, length, take, drop, arith}
use Rattle.std.proofs.Common.{sym, ap, refl}
use Rattle.std.proofs.Common.{inl, inr}
use Rattle.std.proofs.lemmas.Bool.{cases_lt}
use Rattle.std.proofs.lemmas.List.{take_all}
use Rattle.std.proofs.lemmas.List.Splits.{slice_split_first, slice_split_none}
use Rattle.std.proofs.lemmas.List.Sums.{fails_before_first}
use Rattle.std.specs.Prelude.{◌==◌, ◌&&◌}
use Rattle.std.specs.List.{slice_split, position_or_len, list_all}
use Rattle.input_files.specs.Pieces.{is_value, is_next_value, are_values, are_arguments}

-- the first piece, if the text has such a byte
pub split_more : (p : ℕ → Bool) (xs : List ℕ) (place : ℕ) → place ≡ position_or_len p xs → place < length xs →
    slice_split p xs ≡ take place xs ∷ slice_split p (drop (place + 1) xs)
split_more p xs place is some = rw is (slice_split_first p xs 0 (rw is at some))

-- the only piece, if it has none
pub split_last : (p : ℕ → Bool) (xs : List ℕ) → length xs ≤ position_or_len p xs → slice_split p xs ≡ xs ∷ []
split_last p xs none = slice_split_none p xs (λ k d high. fails_before_first p xs k d (omega arith))

and_true : (b : Bool) → (b && true) ≡ b
and_true true = refl
and_true false = refl

-- ---- values with commas between

abbrev pub comma : ℕ → Bool
comma b = b == 44

-- a piece that is not a value
pub values_fail : (rest : List ℕ) (place : ℕ) → place ≡ position_or_len comma rest → place ≤ length rest →
    is_next_value (take place rest) ≡ false → list_all is_next_value (slice_split comma rest) ≡ false
values_fail rest place is bound wrong = elim (cases_lt place (length rest)) [
  | inl less ↦ ap (list_all is_next_value) (split_more comma rest place is less) ∙ rw wrong refl
  | inr most ↦
      let whole : take place rest ≡ rest = take_all place rest most in
      ap (list_all is_next_value) (split_last comma rest (omega (arith, is))) ∙ rw (← whole, wrong) refl
]

-- the last piece
pub values_last : (rest : List ℕ) (place : ℕ) → place ≡ position_or_len comma rest → place ≡ length rest →
    is_next_value (take place rest) ≡ true → list_all is_next_value (slice_split comma rest) ≡ true
values_last rest place is all right =
    let whole : take place rest ≡ rest = take_all place rest (omega (arith, all)) in
    ap (list_all is_next_value) (split_last comma rest (omega (arith, is, all))) ∙ rw (← whole, right) refl

-- a value, and the pieces after it
pub values_more : (rest : List ℕ) (place : ℕ) → place ≡ position_or_len comma rest → place < length rest →
    is_next_value (take place rest) ≡ true →
    list_all is_next_value (slice_split comma (drop (place + 1) rest)) ≡ list_all is_next_value (slice_split comma rest)
values_more rest place is less right = sym (ap (list_all is_next_value) (split_more comma rest place is less) ∙ rw right refl)

-- ---- arguments

-- a single argument
pub argument_alone : (text : List ℕ) (place : ℕ) → (length text == 0) ≡ false → place ≡ position_or_len comma text →
    place ≡ length text → is_value text ≡ are_arguments text
argument_alone text place some is all =
    sym (rw some (ap are_values (split_last comma text (omega (arith, is, all))) ∙ and_true (is_value text)))

-- several arguments
pub arguments_more : (text : List ℕ) (place : ℕ) → (length text == 0) ≡ false → place ≡ position_or_len comma text →
    place < length text →
    (is_value (take place text) && list_all is_next_value (slice_split comma (drop (place + 1) text))) ≡ are_arguments text
arguments_more text place some is less = sym (rw some (ap are_values (split_more comma text place is less)))
