use Rattle.std.proofs.Common.{◌≡◌, map, take}
use Rattle.resolution.specs.Working.Findings.{mistake_of}
use Rattle.explanation_faults.proofs.further.mistakes_of.Given as goal

abbrev pub invariant-loop-one : goal.invariant-loop-one
invariant-loop-one l =
    l.mistakes.items ≡ map mistake_of (take l.one-index l.found)
