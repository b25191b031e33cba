use Rattle.std.proofs.Common.{◌≡◌}
use Rattle.resolution.specs.CoreViews.{core_of}
use Rattle.resolution.specs.Working.Building.{with_elements}
use Rattle.types.proofs.grown.add_elements.Given as goal

abbrev pub invariant-loop-index : goal.invariant-loop-index
invariant-loop-index l = record {
  value : core_of l.program ≡ with_elements (core_of l.fn.program) l.array l.t l.index;
}
