use Rattle.std.proofs.Common.{◌≡◌, ℕ, length, Some}
use Rattle.std.specs.Prelude.{slice_get}
use Rattle.core_lang.specs.declared.tree.Section.{Section}
use Rattle.layout.specs.declared.room.Room.{Room}
use Rattle.lowering.specs.Working.Rooms.{IsRoomOf}
use Rattle.lowering.proofs.program_rooms.rooms.Given as goal

abbrev pub invariant-loop-k : goal.invariant-loop-k
invariant-loop-k l = record {
  long : length l.rooms.items ≡ l.k;
  each : (j : ℕ) (section : Section) (room : Room) → slice_get l.program.sections.items j ≡ Some section →
      slice_get l.rooms.items j ≡ Some room → IsRoomOf l.program l.layout section room;
}
