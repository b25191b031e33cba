use Rattle.std.proofs.Common.{◌≡◌, drop}
use Rattle.locks.specs.Accesses.{in_exprs}
use Rattle.lockpaths.specs.Working.Finding.{over}
use Rattle.lockpaths.specs.Working.Told.{seen}
use Rattle.lockpaths.proofs.finder.Finder.exprs.Given as goal

abbrev pub invariant-loop-e : goal.invariant-loop-e
invariant-loop-e l = over l.self (seen l.found) (in_exprs (drop l.e-index l.list)) ≡ over l.self (seen l.initial.found) (in_exprs l.list)
