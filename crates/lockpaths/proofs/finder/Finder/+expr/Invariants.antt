use Rattle.std.proofs.Common.{◌≡◌, drop}
use Rattle.lockpaths.specs.Working.Finding.{over, in_operands}
use Rattle.lockpaths.specs.Working.Told.{seen}
use Rattle.lockpaths.proofs.finder.Finder.+expr.Given as goal

abbrev pub invariant-loop-operation : goal.invariant-loop-operation
invariant-loop-operation l =
    over l.self (seen l.found) (in_operands (drop l.operation-index l.operation-items)) ≡ over l.self (seen l.initial.found) (in_operands l.operation-items)
