pub mod Working
pub use Rattle.moved_cells.specs.Working.Grants.{GrantOf, locks_of, numbered, cells_in, IsWhole, values_on}
