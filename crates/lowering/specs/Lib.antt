pub mod Plans
pub mod Working
-- the definitions that public clauses cite
pub use Rattle.lowering.specs.Working.Lowered.{IsLowered, IsCodeOf, IsCode}
pub use Rattle.lowering.specs.Working.Rooms.{most_cells, IsRoomOf, AreRoomsOf}
pub use Rattle.lowering.specs.Plans.{Plan, IsCompiled, CodesBehave, CompiledRunAlike}
pub use Rattle.lowering.specs.Working.Compiled.{IsRoomAt, written_in, program_of}
pub use Rattle.lowering.specs.Working.PlanLaws.{NothingIsTaken}
