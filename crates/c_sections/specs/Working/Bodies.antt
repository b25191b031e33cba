-- The texts of instructions, as values of the code have them. Nobody has to believe these.
use Rattle.std.specs.Prelude.{◌≡◌, ℕ, List, map, Option}
use Rattle.core_lang.specs.declared.typed.Typed.{Typed}
use Rattle.locks.specs.LockPaths.{LockPath, lock_path_of}
use Rattle.code.specs.declared.instr.Instr.{Instr}
use Rattle.code.specs.declared.listed.Listed.{Listed}
use Rattle.code.specs.Listing.{text_at}
use Rattle.code.specs.Working.Asked.{lists_of}
use Rattle.c_language.specs.declared.statement.Statement.{Statement}
use Rattle.c_language.specs.Plans.{IsPlan, plan}
use Rattle.c_sections.specs.declared.groups.Groups.{Groups}
use Rattle.c_sections.specs.declared.instructions.InstructionLines.{InstructionLines}
use Rattle.c_sections.specs.Instructions as text
use Rattle.c_sections.specs.Working.Codes.{AreTargets, StandsAt}
use Rattle.c_sections.specs.Working.Codes as codes

abbrev pub program_of : InstructionLines → Typed
program_of x = x.scope.program.now

abbrev pub code_of : InstructionLines → List Instr
code_of x = x.listed.code.now.instructions.items

abbrev pub paths_of : InstructionLines → List LockPath
paths_of x = map lock_path_of x.listed.paths.now

abbrev pub HasTargets : InstructionLines → Type 0
HasTargets x = AreTargets (code_of x) x.targets.items

-- what is known along the code is a plan of it
abbrev pub HasPlan : InstructionLines → Type 0
HasPlan x = IsPlan (program_of x) (code_of x) (plan (program_of x) (code_of x))

-- the lines are those of this section
pub record IsBodyOf (program : Typed) (listed : Listed) (x : InstructionLines) : Type 0 where
  pub program_is : x.scope.program.now ≡ program
  pub section_is : x.scope.section.now ≡ listed.section.now
  pub listed_is : x.listed ≡ listed

-- the groups are those before this place
abbrev pub IsAt : InstructionLines → ℕ → Groups → Type 0
IsAt x place g = (codes.program_of g ≡ program_of x) × StandsAt (code_of x) place g

abbrev pub label_of : InstructionLines → ℕ → List ℕ
label_of x place = text.label_text (code_of x) place

abbrev pub asked_of : InstructionLines → Instr → List ℕ
asked_of x i = text.asked_text (program_of x) x.scope.section.now (lists_of x.listed) (paths_of x) i

abbrev pub group_of : InstructionLines → List Statement → List ℕ
group_of x group = text.group_text (program_of x) x.scope.section.now (lists_of x.listed) (paths_of x) group

-- the text of the instruction at a place
abbrev pub instr_of : InstructionLines → ℕ → List ℕ
instr_of x place =
    text_at (text.instr_text (program_of x) x.scope.section.now (lists_of x.listed) (paths_of x) (code_of x) place)
    (code_of x) place

abbrev pub instrs_of : InstructionLines → List ℕ
instrs_of x = text.instrs_text (program_of x) x.scope.section.now (lists_of x.listed) (paths_of x) (code_of x)

-- the text of the instruction at a place, with its mark
abbrev pub marked_of : InstructionLines → (ℕ → List ℕ) → ℕ → List ℕ
marked_of x mark place =
    text_at (text.marked_instr (program_of x) x.scope.section.now (lists_of x.listed) (paths_of x) mark (code_of x) place)
    (code_of x) place

abbrev pub all_marked : InstructionLines → (ℕ → List ℕ) → List ℕ
all_marked x mark = text.marked_text (program_of x) x.scope.section.now (lists_of x.listed) (paths_of x) mark (code_of x)

abbrev pub body_of : InstructionLines → Option (ℕ → List ℕ) → List ℕ
body_of x mark = text.body_text (program_of x) x.scope.section.now (lists_of x.listed) (paths_of x) mark (code_of x)

-- the places where points begin
abbrev pub begins_of : InstructionLines → List ℕ
begins_of x = x.listed.code.now.begins.items
