pub mod LockCells
pub mod Layouts
pub mod Working
pub mod Theory
pub use Rattle.layout.specs.LockCells.{cells_of, IsSlot}
pub use Rattle.layout.specs.Layouts.{LayoutOf, all_locks, AreDistinct, IsLayoutOf}
