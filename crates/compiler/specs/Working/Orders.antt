-- The facts about a text whose lock classes have an order.
use Rattle.std.specs.Prelude.{ℕ, List}
use Rattle.core_lang.specs.WellFormed.{IsChecked, IsWellFormed}
use Rattle.core_lang_helpers.specs.Data.{IsExpanded}
use Rattle.lockorder.specs.Edges.{AreRanksOf, RiseIn}
use Rattle.lockpaths.specs.Paths.{ArePaths}
use Rattle.locks.specs.Faults.{HasNoFault}
use Rattle.points.specs.Working.Points.{AreAllPointsOf}
use Rattle.lowering.specs.Working.Compiled.{program_of}
use Rattle.compiler.specs.declared.passes.Ordered.{Ordered}
use Rattle.compiler.specs.Programs.{Accepts}

-- the text is accepted. With its helpers expanded, its program has these lock paths, its sections these points, and its
-- lock classes these ranks
pub record IsOrdered (source : List ℕ) (ordered : Ordered) : Type 0 where
  pub accepts : Accepts source ordered.trees.accepted
  pub checked : IsChecked ordered.trees.accepted
  pub expanded : IsExpanded ordered.trees.accepted (program_of ordered.trees)
  pub well_formed : IsWellFormed (program_of ordered.trees)
  pub paths : ArePaths (program_of ordered.trees) ordered.paths
  pub stable : HasNoFault (program_of ordered.trees)
  pub points : AreAllPointsOf (program_of ordered.trees) ordered.points.items
  pub ranks : AreRanksOf (program_of ordered.trees) ordered.ranks.items
  pub rise : RiseIn (program_of ordered.trees) ordered.ranks.items
