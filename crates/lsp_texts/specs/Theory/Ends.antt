-- A place past the end is the end.
use Rattle.std.proofs.Common.{◌≡◌, ◌∙◌, ℕ, zero, suc, ◌≤◌, min, List, [], ◌∷◌, length, refl, sym, ap, arith, inl, inr}
use Rattle.std.proofs.lemmas.Bool.{cases_lt}
use Rattle.std.specs.List.{slice_get}
use Rattle.lsp_texts.specs.Positions.{behind, place_from, position_of}
use Rattle.lsp_texts.specs.declared.walking.Position.{Position}

place_past : (here : Position) (text : List ℕ) (n : ℕ) → length text ≤ n → place_from here text n ≡ place_from here text (length text)
unfolding place_from
place_past here [] zero past = refl
place_past here [] (suc n) past = refl
place_past here (x ∷ text) zero past = absurd (omega arith)
place_past here (x ∷ text) (suc n) past = place_past (behind here x (slice_get text 0)) text n (omega arith)

pub at_most : (text : List ℕ) (at to : ℕ) → to ≡ min at (length text) → position_of text to ≡ position_of text at
at_most text at to is = elim (cases_lt at (length text)) [
  | inl within ↦ let same : to ≡ at = omega arith in ap (position_of text) same
  | inr past ↦ let same : to ≡ length text = omega arith in ap (position_of text) same ∙ sym (place_past _ text at (omega arith))
]

-- a place that is cut off at a bound after the text's end has the same position
pub cut_off : (text : List ℕ) (at most to : ℕ) → length text ≤ most → to ≡ min at most → position_of text to ≡ position_of text at
cut_off text at most to short is =
    let same : min to (length text) ≡ min at (length text) = omega arith in
    sym (at_most text to (min to (length text)) refl) ∙ at_most text at (min to (length text)) same
