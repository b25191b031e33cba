use Rattle.std.proofs.Common.{◌≡◌, length}
use Rattle.lowering.specs.Working.Sizes.{CountObjects}
use Rattle.lowering.proofs.class_sizes.objects_by_struct.Given as goal

abbrev pub invariant-loop-structure : goal.invariant-loop-structure
invariant-loop-structure l = record {
  long : length l.objects.items ≡ l.structure;
  counted : CountObjects l.program l.objects.items;
}
