use Rattle.std.proofs.Common.{◌≡◌, ◌⊎◌, ℕ, length}
use Rattle.std.specs.Bool.{Decides}
use Rattle.lockorder.specs.Working.Tables.{has_edge}
use Rattle.lockorder.proofs.InSection.{Below}
use Rattle.lockorder.proofs.Bridge.{MakesIn}
use Rattle.lockorder.proofs.class_order.table.Given as goal

abbrev pub invariant-loop-section : goal.invariant-loop-section
invariant-loop-section l = record {
  classes : length l.table.before.items ≡ length l.program.classes.items;
  edges : (c d : ℕ) → Decides (has_edge l.table.before.items c d) (⊥ ⊎ Below (λ k. MakesIn l.program k c d) l.section-index);
}
