pub mod Paths
pub mod Working
pub use Rattle.locks.specs.Faults.{HasNoFault, IsLeast, IsRefusal}
pub use Rattle.lockpaths.specs.Paths.{AreSectionPaths, ArePaths}
