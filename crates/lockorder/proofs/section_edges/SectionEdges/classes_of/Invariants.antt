use Rattle.std.proofs.Common.{ℕ, ◌⊎◌}
use Rattle.std.specs.Bool.{Decides}
use Rattle.bit_set.specs.Working.Sets.{has_number}
use Rattle.lockorder.specs.Working.Sections.{IsIn, IsOfClass}
use Rattle.lockorder.proofs.InSection.{Below}
use Rattle.lockorder.proofs.section_edges.SectionEdges.classes_of.Given as goal

abbrev pub invariant-loop-path : goal.invariant-loop-path
invariant-loop-path l = (c : ℕ) → Decides (has_number l.classes c) (⊥ ⊎ Below (λ i. IsIn l.set i × IsOfClass l.self.points.now c i) l.path)
