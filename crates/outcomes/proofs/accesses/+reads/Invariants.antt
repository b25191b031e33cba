use Rattle.std.proofs.Common.{◌≡◌, ◌++◌, drop}
use Rattle.outcomes.specs.Working.Touches.{reads_in_all}
use Rattle.outcomes.specs.Working.Listing.{touches}
use Rattle.outcomes.proofs.accesses.+reads.Given as goal

abbrev pub invariant-loop-operation : goal.invariant-loop-operation
invariant-loop-operation l =
    touches l.list.items ++ reads_in_all (drop l.operation-index l.operation-items) ≡ touches
    l.initial.list.items ++ reads_in_all l.operation-items
