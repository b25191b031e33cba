-- When an end meets an expectation: the relation holds between the sums of the numbers and of the cells' contents.
use Rattle.std.specs.Prelude.{ℕ, Bool, not, ◌==◌, List, Option, Some, None, slice_get, position, fold, ℤ, pos, neg_ℤ, ◌+ℤ◌, int_lt, int_le}
use Rattle.std.specs.Option.{option_map_or}
use Rattle.std.specs.Ordering.{int_eq}
use Rattle.core_lang.specs.declared.value.Value.{Value}
use Rattle.core_lang.specs.declared.value.Value.TheVariants.{Int, Ref}
use Rattle.outcomes.specs.declared.outcome.Cells.{Cells}
use Rattle.outcomes.specs.declared.outcome.Cells.TheVariants.{Every, These}
use Rattle.report_runs.specs.declared.expectation.Relation.{Relation}
use Rattle.report_runs.specs.declared.expectation.Relation.TheVariants.{Equal, NotEqual, Less, LessOrEqual, Greater, GreaterOrEqual}
use Rattle.report_runs.specs.declared.expectation.Sign.{Sign}
use Rattle.report_runs.specs.declared.expectation.Sign.TheVariants.{Plus, Minus}
use Rattle.report_runs.specs.declared.comparison.Quantity.{Quantity}
use Rattle.report_runs.specs.declared.comparison.Quantity.TheVariants.{Number, Cell}
use Rattle.report_runs.specs.declared.comparison.Addend.{Addend}
use Rattle.report_runs.specs.declared.comparison.Comparison.{Comparison}

-- the position of the cell with this number among the reported cells
abbrev pub place_of : Cells → ℕ → Option ℕ
place_of Every number = Some number
place_of (These numbers) number = position (λ other. other == number) numbers.items

-- the number that a cell holds; 0, where it is not reported or holds a reference
abbrev pub number_held : Option Value → ℤ
number_held (Some (Int number)) = number
number_held (Some (Ref object)) = pos 0
number_held None = pos 0

-- the number that the cell with this number holds; 0, where it is not reported or holds a reference
abbrev pub told_number : Cells → List Value → ℕ → ℤ
told_number cells values number = option_map_or (λ place. number_held (slice_get values place)) (place_of cells number) (pos 0)

-- the number itself, or the number that the cell holds
abbrev pub quantity_of : Cells → List Value → Quantity → ℤ
quantity_of cells values (Number number) = number
quantity_of cells values (Cell number) = told_number cells values number

-- the number with this sign before it
abbrev pub signed : Sign → ℤ → ℤ
signed Plus number = number
signed Minus number = neg_ℤ number

-- what an addend adds to a sum
abbrev pub value_of_addend : Cells → List Value → Addend → ℤ
value_of_addend cells values addend = signed addend.sign (quantity_of cells values addend.quantity)

-- the sum of addends
abbrev pub sum_of : Cells → List Value → List Addend → ℤ
sum_of cells values addends = fold (λ sum addend. sum +ℤ value_of_addend cells values addend) (pos 0) addends

-- the relation holds between these numbers
abbrev pub relation_holds : Relation → ℤ → ℤ → Bool
relation_holds Equal left right = int_eq left right
relation_holds NotEqual left right = not (int_eq left right)
relation_holds Less left right = int_lt left right
relation_holds LessOrEqual left right = int_le left right
relation_holds Greater left right = int_lt right left
relation_holds GreaterOrEqual left right = int_le right left

-- the comparison holds where these cells have these values
abbrev pub holds : Cells → List Value → Comparison → Bool
holds cells values comparison =
    relation_holds comparison.relation (sum_of cells values comparison.left.items) (sum_of cells values comparison.right.items)
