use Rattle.std.proofs.Common.{◌≡◌, ℕ, ◌⊎◌, length}
use Rattle.std.specs.Bool.{Decides}
use Rattle.lockorder.specs.Working.Tables.{has_edge, InTable}
use Rattle.lockorder.specs.Working.Sections.{UsesSoFar, BindsAt}
use Rattle.lockorder.proofs.InSection.{Below}
use Rattle.lockorder.proofs.section_edges.SectionEdges.add_to.Given as goal

abbrev pub invariant-loop-point : goal.invariant-loop-point
invariant-loop-point l = record {
  classes : length l.table.before.items ≡ length l.initial.table.before.items;
  edges : (c d : ℕ) →
      Decides (has_edge l.table.before.items c d) (InTable l.initial.table.before.items c d ⊎ Below (λ p. UsesSoFar l.self.points.now p c × BindsAt l.self.points.now p d) l.point);
}
