use Rattle.std.proofs.Common.{◌≡◌, drop}
use Rattle.lockpaths.specs.Working.Finding.{over, in_all}
use Rattle.lockpaths.specs.Working.Told.{seen}
use Rattle.lockpaths.proofs.finder.Finder.+conditions.Given as goal

abbrev pub invariant-conditions-loop-condition : goal.invariant-conditions-loop-condition
invariant-conditions-loop-condition l =
    over l.self (seen l.found) (in_all (drop l.condition-index l.conditions)) ≡ over l.self (seen l.initial.found) (in_all l.conditions)
