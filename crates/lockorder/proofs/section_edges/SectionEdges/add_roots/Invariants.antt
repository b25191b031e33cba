use Rattle.std.proofs.Common.{◌≡◌, ℕ, ◌⊎◌, length}
use Rattle.std.specs.Bool.{Decides}
use Rattle.lockorder.specs.Working.Tables.{InSet, has_edge, InTable}
use Rattle.lockorder.specs.Working.Sections.{IsIn, IsOfClass}
use Rattle.lockorder.proofs.InSection.{Below}
use Rattle.lockorder.proofs.section_edges.SectionEdges.add_roots.Given as goal

abbrev pub invariant-loop-path : goal.invariant-loop-path
invariant-loop-path l = record {
  classes : length l.table.before.items ≡ length l.initial.table.before.items;
  edges : (c d : ℕ) →
      Decides (has_edge l.table.before.items c d) (InTable l.initial.table.before.items c d ⊎ Below (λ i. IsIn l.bound i × IsOfClass l.self.points.now d i × InSet l.used c) l.path);
}
