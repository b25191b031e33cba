-- The texts of a section before its instructions, as values of the code have them. Nobody has to believe these.
use Rattle.std.specs.Prelude.{ℕ, Bool, List, length, Option}
use Rattle.core_lang.specs.declared.tree.Local.{Local}
use Rattle.core_lang.specs.declared.tree.Section.{Section}
use Rattle.core_lang.specs.declared.value.ValueType.{ValueType}
use Rattle.code.specs.declared.instr.Instr.{Instr}
use Rattle.code.specs.declared.listed.Listed.{Listed}
use Rattle.c_language.specs.declared.statement.Temporary.{Temporary}
use Rattle.c_language.specs.Plans.{IsPlan, plan}
use Rattle.c_sections.specs.declared.names.Writer.{Writer}
use Rattle.c_sections.specs.Sections as text

abbrev pub result_of : Writer → Option ValueType → List ℕ
result_of x t = text.result_struct x.prefix.now x.program.now t

abbrev pub declared_of : Writer → ℕ → Local → List ℕ
declared_of x k local = text.declared x.prefix.now x.program.now k local

abbrev pub parameter_of : Writer → ℕ → Local → List ℕ
parameter_of x k local = text.parameter_text x.prefix.now x.program.now k local

abbrev pub parameters_of : Writer → Section → List ℕ
parameters_of x section = text.parameters_text x.prefix.now x.program.now section

abbrev pub head_of : Writer → Section → List ℕ
head_of x section = text.head_text x.prefix.now x.program.now section

abbrev pub local_of : Writer → ℕ → Local → List ℕ
local_of x k local = text.local_line x.prefix.now x.program.now k local

abbrev pub locals_of : Writer → Section → List ℕ
locals_of x section = text.locals_lines x.prefix.now x.program.now section

abbrev pub temporary_of : Writer → Temporary → List ℕ
temporary_of x t = text.temporary_line x.prefix.now x.program.now t

abbrev pub value_of : Writer → Option ValueType → List ℕ
value_of x t = text.value_line x.prefix.now x.program.now t

abbrev pub result_line_of : Writer → Option ValueType → List ℕ
result_line_of x t = text.result_line x.prefix.now x.program.now t

abbrev pub further_of : Writer → Section → Bool → ℕ → List ℕ
further_of x section prints count = text.further_lines x.prefix.now x.program.now section prints count

abbrev pub code_of : Listed → List Instr
code_of listed = listed.code.now.instructions.items

-- what is known along the code is a plan of it
abbrev pub HasPlan : Writer → Listed → Type 0
HasPlan x listed = IsPlan x.program.now (code_of listed) (plan x.program.now (code_of listed))

abbrev pub declarations_of : Writer → Listed → List ℕ
declarations_of x listed =
    text.declarations x.prefix.now x.program.now listed.section.now (code_of listed) (length listed.paths.now)

abbrev pub reference_of : Writer → ℕ → Local → ℕ → List ℕ
reference_of x k local s = text.reference_line x.prefix.now x.program.now k local s

abbrev pub guarded_of : Writer → List Local → List ℕ
guarded_of x locals = text.check_lines x.prefix.now x.program.now locals

abbrev pub check_line_of : Writer → ℕ → Local → List ℕ
check_line_of x k local = text.check_line x.prefix.now x.program.now k local

abbrev pub checks_of : Writer → Section → List ℕ
checks_of x section = text.checks x.prefix.now x.program.now section

abbrev pub section_name_of : Writer → Section → List ℕ
section_name_of x section = text.section_name x.prefix.now section

abbrev pub begun_of : Writer → Section → Bool → List ℕ
begun_of x section prints = text.begun_text x.prefix.now section prints

abbrev pub front_of : Writer → Listed → List ℕ
front_of x listed =
    text.front_text x.prefix.now x.program.now listed.section.now (code_of listed) (length listed.paths.now)
