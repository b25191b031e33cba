-- Laws of programs without helpers, and of prints.
use Rattle.std.specs.Prelude.{◌≤◌, List, length}
use Rattle.core_lang.specs.declared.value.Value.{Value}
use Rattle.core_lang.specs.declared.shape.Shape.{Shape}
use Rattle.core_lang.specs.declared.tree.Section.{Section}
use Rattle.core_lang.specs.declared.typed.Typed.{Typed}
use Rattle.core_lang.specs.Whole.{Finished, Whole}
use Rattle.core_lang.specs.WellFormed.{IsWellFormed}
use Rattle.core_lang_helpers.specs.Data.{IsExpanded}
use Rattle.core_lang_helpers.specs.Prints.{most_prints}

-- ---- programs without helpers

abbrev pub AProgramWithoutHelpersIsItsOwnExpansion : Type 0
AProgramWithoutHelpersIsItsOwnExpansion = (program : Typed) → IsWellFormed program → IsExpanded program program

-- ---- prints

-- a section that runs whole prints at most `most_prints` numbers, whatever its arguments and heap
abbrev pub NoRunPrintsMore : Type 0
NoRunPrintsMore =
    (section : Section) (shape : Shape) (arguments heap : List Value) (finished : Finished) →
    Whole section shape arguments heap finished → length finished.prints ≤ most_prints section
