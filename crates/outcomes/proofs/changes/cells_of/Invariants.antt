use Rattle.std.proofs.Common.{◌≡◌, drop}
use Rattle.outcomes.specs.Working.Changes.{applied}
use Rattle.outcomes.proofs.changes.cells_of.Given as goal

-- the remaining changes, made to the cells so far, give the final cells
abbrev pub invariant-loop-change : goal.invariant-loop-change
invariant-loop-change l = applied (drop l.change-index l.changes) l.cells.items ≡ applied l.changes l.opening
