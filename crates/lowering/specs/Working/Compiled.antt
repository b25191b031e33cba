-- The model of a compiled program.
use Rattle.std.specs.Prelude.{◌≡◌, ℕ, List, slice_get, Option, Some, None}
use Rattle.core_lang.specs.declared.tree.Section.{Section}
use Rattle.core_lang.specs.declared.typed.Typed.{Typed}
use Rattle.lockpaths.specs.declared.table.Paths.{Paths}
use Rattle.lockpaths.specs.Paths.{ArePaths}
use Rattle.inserter.specs.declared.placed.Placed.{Placed}
use Rattle.inserter.specs.Placement.{all_lists}
use Rattle.layout.specs.declared.room.Room.{Room}
use Rattle.layout.specs.Layouts.{LayoutOf}
use Rattle.code.specs.declared.section_code.ProgramCode.{ProgramCode}
use Rattle.lowering.specs.declared.compiled.Trees.{Trees}
use Rattle.lowering.specs.Working.Lowered.{IsCodeOf}
use Rattle.lowering.specs.Working.Rooms.{IsRoomOf, AreRoomsOf}
use Rattle.lowering.specs.Plans.{Plan, IsCompiled}

-- the program that runs: the expanded one, if it is separate, else the accepted one
abbrev pub written_in : Typed → Option Typed → Typed
written_in accepted None = accepted
written_in accepted (Some written) = written

abbrev pub program_of : Trees → Typed
program_of trees = written_in trees.accepted trees.written

-- the plan of a compiled program
abbrev pub plan_of : Typed → Typed → List ℕ → Placed → LayoutOf → Plan
plan_of accepted program ranks placed layout = record {
  accepted = accepted;
  program = program;
  ranks = ranks;
  lists = all_lists placed;
  layout = layout;
}

-- the plan is compiled, and the lock paths, the code and the room for sections are those of the plan
pub record IsProgram (plan : Plan) (found : Paths) (code : ProgramCode) (rooms : List Room) : Type 0 where
  pub compiled : IsCompiled plan
  pub are_paths : ArePaths plan.program found
  pub is_code : IsCodeOf plan.program plan.lists code
  pub are_rooms : AreRoomsOf plan.program plan.layout rooms

-- the room that the plan's section of this number needs
abbrev pub IsRoomAt : Plan → ℕ → Room → Type 0
IsRoomAt plan k room =
    (section : Section) → slice_get plan.program.sections.items k ≡ Some section → IsRoomOf plan.program plan.layout section room
