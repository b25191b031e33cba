-- The code of a program: for each section its instructions, its line table, and the depth of its operand stack.
use Rattle.std.specs.Prelude.{◌≡◌, ℕ, List, length, slice_get, Some}
use Rattle.core_lang.specs.declared.tree.Section.{Section}
use Rattle.core_lang.specs.declared.typed.Typed.{Typed}
use Rattle.code.specs.declared.section_code.SectionCode.{SectionCode}
use Rattle.code.specs.declared.section_code.ProgramCode.{ProgramCode}
use Rattle.code.specs.Lowering.{section_code, lists_at}
use Rattle.code.specs.LineTables.{section_begins}
use Rattle.code.specs.Needs.{operand_need}

-- the code of a section that has these lists before its points
pub record IsLowered (section : Section) (lists : List (List ℕ)) (made : SectionCode) : Type 0 where
  pub instructions : made.instructions.items ≡ section_code lists section
  pub begins : made.begins.items ≡ section_begins lists section
  pub operands : made.operands ≡ operand_need section

-- the code of a program whose sections have these lists
pub record IsCodeOf (program : Typed) (lists : List (List (List ℕ))) (code : ProgramCode) : Type 0 where
  pub long : length code.sections.items ≡ length program.sections.items
  pub each : (k : ℕ) (section : Section) (made : SectionCode) → slice_get program.sections.items k ≡ Some section →
      slice_get code.sections.items k ≡ Some made → IsLowered section (lists_at lists k) made

-- the code of a program, whatever lists its sections have
abbrev pub IsCode : Typed → ProgramCode → Type 0
IsCode program code = (lists : List (List (List ℕ))) × IsCodeOf program lists code
