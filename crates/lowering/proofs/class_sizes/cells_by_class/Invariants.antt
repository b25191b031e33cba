use Rattle.std.proofs.Common.{◌≡◌, ◌≤◌, ℕ, length, take, slice_index}
use Rattle.std.specs.Prelude.{◌==◌}
use Rattle.std.specs.List.{count_by}
use Rattle.locks.specs.declared.lock.Lock.{Lock}
use Rattle.lowering.proofs.class_sizes.cells_by_class.Given as goal

abbrev pub invariant-loop-cell : goal.invariant-loop-cell
invariant-loop-cell l = record {
  long : length l.all.items ≡ length l.program.classes.items;
  each : (class : ℕ) →
      slice_index l.all.items class ≡ count_by (λ (lock : Lock). lock.class == class) (take l.cell l.layout.cell_locks);
}
