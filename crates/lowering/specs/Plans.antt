-- A compiled program as data.
use Rattle.std.specs.Prelude.{◌≡◌, ◌↔◌, ℕ, List, slice_get, Some}
use Rattle.core_lang.specs.declared.value.Value.{Value}
use Rattle.core_lang.specs.declared.tree.Section.{Section}
use Rattle.core_lang.specs.declared.typed.Typed.{Typed}
use Rattle.core_lang.specs.Serial.{Invocation, Ended, SerialFromOpening}
use Rattle.core_lang.specs.Laws.{CallsFill}
use Rattle.core_lang.specs.WellFormed.{IsChecked, IsWellFormed}
use Rattle.core_lang_helpers.specs.Data.{IsExpanded}
use Rattle.locks.specs.Faults as paths
use Rattle.lockorder.specs.Edges.{AreRanksOf, RiseIn}
use Rattle.inserter.specs.Placement.{IsPlacement}
use Rattle.layout.specs.Layouts.{LayoutOf, IsLayoutOf}
use Rattle.code.specs.declared.section_code.SectionCode.{SectionCode}
use Rattle.code.specs.declared.section_code.ProgramCode.{ProgramCode}
use Rattle.code.specs.Needs.{operand_need}
use Rattle.code.specs.Alone.{Behaves}
use Rattle.lowering.specs.Working.Lowered.{IsCodeOf}

-- a program as accepted, the same with its helpers expanded, the ranks of its lock classes, for each section the lists
-- of lock paths before its points, as indexes into the section's lock paths, and the layout of cells and locks. Its
-- code is that of `code`, for these lists
pub record Plan : Type 0 where
  pub accepted : Typed
  -- the program that runs, which has no helpers
  pub program : Typed
  pub ranks : List ℕ
  pub lists : List (List (List ℕ))
  pub layout : LayoutOf

-- the program is the accepted one with its helpers expanded, and well formed. Each of its accesses has a lock path, and
-- no section has too many. Locks that must be acquired before others have a lower rank. The list before each point has
-- the paths that are due there, and the layout is the program's
pub record IsCompiled (plan : Plan) : Type 0 where
  pub checked : IsChecked plan.accepted
  pub expanded : IsExpanded plan.accepted plan.program
  pub well_formed : IsWellFormed plan.program
  pub stable : paths.HasNoFault plan.program
  pub ranked : AreRanksOf plan.program plan.ranks
  pub rise : RiseIn plan.program plan.ranks
  pub placed : IsPlacement plan.program plan.ranks plan.lists
  pub laid_out : IsLayoutOf plan.program plan.layout

-- the code of a well-formed program behaves as its sections
abbrev pub CodesBehave : Type 0
CodesBehave =
    (program : Typed) (lists : List (List (List ℕ))) (code : ProgramCode) (k : ℕ) (section : Section) (made : SectionCode) →
    IsWellFormed program → IsCodeOf program lists code →
    slice_get program.sections.items k ≡ Some section → slice_get code.sections.items k ≡ Some made →
    Behaves program section made.instructions.items (operand_need section)

-- calls run one after another end on the compiled program as on the accepted one
abbrev pub CompiledRunAlike : Type 0
CompiledRunAlike =
    (plan : Plan) (calls : List Invocation) (ends : List Ended) (heap : List Value) → IsCompiled plan → CallsFill plan.accepted calls →
    (SerialFromOpening plan.accepted calls ends heap) ↔ (SerialFromOpening plan.program calls ends heap)
