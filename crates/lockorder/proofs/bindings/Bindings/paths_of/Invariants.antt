use Rattle.std.proofs.Common.{◌<◌, ℕ}
use Rattle.std.specs.Bool.{Decides}
use Rattle.locks.specs.Sets.{has}
use Rattle.lockorder.specs.Working.Sections.{IsOfClass}
use Rattle.lockorder.proofs.bindings.Bindings.paths_of.Given as goal

abbrev pub invariant-loop-path : goal.invariant-loop-path
invariant-loop-path l = (i : ℕ) → Decides (has l.paths i) ((i < l.path) × IsOfClass l.self.points.now l.class i)
