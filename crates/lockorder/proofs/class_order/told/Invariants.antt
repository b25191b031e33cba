use Rattle.std.proofs.Common.{◌≡◌, length}
use Rattle.lockorder.specs.Working.Tellings.{AreTold}
use Rattle.lockorder.proofs.class_order.told.Given as goal

abbrev pub invariant-loop-section : goal.invariant-loop-section
invariant-loop-section l = record {
  classes : l.telling.classes ≡ length l.program.classes.items;
  told : AreTold l.program l.section (length l.program.classes.items) l.telling.told.items;
}
