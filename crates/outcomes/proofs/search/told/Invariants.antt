use Rattle.std.proofs.Common.{◌≡◌, map, take}
use Rattle.outcomes.specs.Ends.{told_of}
use Rattle.outcomes.specs.Working.Searching.{as_told}
use Rattle.outcomes.proofs.search.told.Given as goal

abbrev pub invariant-loop-number : goal.invariant-loop-number
invariant-loop-number l = map told_of l.ends.items ≡ map (as_told l.trail) (take l.number l.layer.states)
