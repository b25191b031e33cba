-- The cells that the names of an expectation stand for, and the names that do not stand for a sum.
use Rattle.std.specs.Prelude.{◌≡◌, ℕ, Bool, true, false, not, ◌&&◌, List, [], ◌∷◌, ◌++◌, map, Option, Some}
use Rattle.std.specs.List.{find, flat_map, list_all, list_any}
use Rattle.core_lang.specs.declared.value.ValueType.{ValueType}
use Rattle.core_lang.specs.declared.value.ValueType.TheVariants.{Integer, Reference}
use Rattle.core_lang.specs.declared.typed.Cell.{Cell}
use Rattle.core_lang.specs.declared.typed.Typed.{Typed}
use Rattle.report_runs.specs.Names.{is_named, is_known, numbers_from}
use Rattle.report_runs.specs.declared.expectation.Sign.{Sign}
use Rattle.report_runs.specs.declared.comparison.Quantity.TheVariants as quantity
use Rattle.report_runs.specs.declared.comparison.Addend.{Addend}
use Rattle.report_runs.specs.declared.comparison.Comparison.{Comparison}
use Rattle.report_runs.specs.declared.expectation_names.BadName.{BadName}
use Rattle.report_runs.specs.declared.expectation_names.BadName.TheVariants.{Unknown, NoNumber}
use Rattle.report_runs.specs.ExpectationTexts.{Amount, the_number, the_name, Part, Said}

-- ---- names

-- the name that an amount is, if it is one
abbrev pub names_of_amount : Amount → List (List ℕ)
names_of_amount (the_number n) = []
names_of_amount (the_name text) = text ∷ []

-- the names in a sum, in order
abbrev pub sum_names : List Part → List (List ℕ)
sum_names parts = flat_map (λ (part : Part). names_of_amount part.amount) parts

-- the names on both sides of an expectation
abbrev pub names_of : Said → List (List ℕ)
names_of said = sum_names said.left ++ sum_names said.right

-- the type is of references
abbrev pub is_reference_type : ValueType → Bool
is_reference_type Integer = false
is_reference_type (Reference structure) = true

-- the cell holds references
abbrev pub is_reference : Cell → Bool
is_reference cell = is_reference_type cell.value_type

-- a cell that the name stands for holds a reference
abbrev pub has_reference : Typed → List ℕ → Bool
has_reference program name = list_any (λ (cell : Cell). is_named program name cell && is_reference cell) program.cells.items

-- the name stands for cells, and each of them holds a number
abbrev pub is_numeric : Typed → List ℕ → Bool
is_numeric program name = is_known program name && not (has_reference program name)

-- this name does not stand for a sum
abbrev pub IsBadName : Typed → List ℕ → BadName → Type 0
IsBadName program name (Unknown bad) = (bad.now ≡ name) × (is_known program name ≡ false)
IsBadName program name (NoNumber bad) = (bad.now ≡ name) × (has_reference program name ≡ true)

-- the first of these names that does not stand for a sum, if one doesn't
abbrev pub first_bad : Typed → List (List ℕ) → Option (List ℕ)
first_bad program names = find (λ name. not (is_numeric program name)) names

-- the first of these names that does not stand for a sum is this one
abbrev pub IsBadAmong : Typed → List (List ℕ) → BadName → Type 0
IsBadAmong program names bad = (name : List ℕ) × (first_bad program names ≡ Some name) × IsBadName program name bad

-- ---- sums

-- the number; or each cell of the name, in order of number
abbrev pub addends_of_amount : Typed → Sign → Amount → List Addend
addends_of_amount program sign (the_number n) = record { sign = sign; quantity = quantity.Number n } ∷ []
addends_of_amount program sign (the_name text) =
    map (λ cell. record { sign = sign; quantity = quantity.Cell cell }) (numbers_from program (text ∷ []) 0 program.cells.items)

-- the addends of a part, each with the part's sign
abbrev pub addends_of : Typed → Part → List Addend
addends_of program part = addends_of_amount program part.sign part.amount

-- the comparison is over the cells of the names, and all of these hold numbers
pub record IsResolved (program : Typed) (said : Said) (comparison : Comparison) : Type 0 where
  pub numeric : list_all (is_numeric program) (names_of said) ≡ true
  pub left : comparison.left.items ≡ flat_map (addends_of program) said.left
  pub relation : comparison.relation ≡ said.relation
  pub right : comparison.right.items ≡ flat_map (addends_of program) said.right
