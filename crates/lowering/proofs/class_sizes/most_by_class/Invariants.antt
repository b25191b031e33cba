use Rattle.std.proofs.Common.{◌≡◌, ℕ, length, take, slice_index}
use Rattle.lowering.specs.Working.Rooms.{most_among}
use Rattle.lowering.proofs.class_sizes.most_by_class.Given as goal

abbrev pub invariant-loop-lock : goal.invariant-loop-lock
invariant-loop-lock l = record {
  long : length l.most.items ≡ length l.program.classes.items;
  each : (class : ℕ) →
      slice_index l.most.items class ≡ most_among l.layout.cell_locks (take l.lock-index l.lock-items) class;
}
