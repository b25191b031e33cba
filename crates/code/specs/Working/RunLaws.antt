-- Laws of a section's code run alone, as the law of `src/run_laws.rt` claims them.
use Rattle.std.specs.Prelude.{◌≡◌, ℕ, List}
use Rattle.core_lang.specs.declared.value.Value.{Value}
use Rattle.core_lang.specs.declared.shape.Shape.{Shape}
use Rattle.core_lang.specs.declared.tree.Section.{Section}
use Rattle.core_lang.specs.Whole.{Finished, Whole, opening}
use Rattle.core_lang.specs.declared.typed.Typed.{Typed}
use Rattle.core_lang.specs.Helpers.{CallsNothing}
use Rattle.core_lang.specs.WellFormed.{IsWellFormed}
use Rattle.locks.specs.Faults.{HasSection}
use Rattle.code.specs.Alone.{alone, halted, Behaves}
use Rattle.code.specs.Lowering.{section_code}
use Rattle.code.specs.Needs.{operand_need}

-- if the whole run of a section that calls nothing ends, its code alone comes to the same outcome, prints and heap
-- after some number of instructions, whatever lock paths are listed before its points
abbrev pub EndsAsSection : Type 0 → Type 0
EndsAsSection P =
    (lists : List (List P)) (section : Section) (shape : Shape) (arguments heap : List Value) (finished : Finished) →
    CallsNothing section → Whole section shape arguments heap finished →
    (n : ℕ) ×
    (alone shape (section_code lists section) n (opening section arguments heap).locals heap ≡ halted finished)

-- if the code of such a section comes to an outcome, the whole run of the section ends, and in the same way
abbrev pub EndsOnlyAsSection : Type 0 → Type 0
EndsOnlyAsSection P =
    (lists : List (List P)) (section : Section) (shape : Shape) (arguments heap : List Value) (n : ℕ)
    (finished : Finished) → CallsNothing section →
    alone shape (section_code lists section) n (opening section arguments heap).locals heap ≡ halted finished →
    Whole section shape arguments heap finished

-- the code of a section of a well-formed program behaves as the section, with room for as many operands as it needs,
-- whatever lock paths are listed before its points
abbrev pub SectionsBehave : Type 0 → Type 0
SectionsBehave P =
    (program : Typed) (section : Section) (lists : List (List P)) → IsWellFormed program → HasSection program section →
    Behaves program section (section_code lists section) (operand_need section)
