use Rattle.std.proofs.Common.{◌≡◌}
use Rattle.outcomes.specs.Working.Changes.{changes_below}
use Rattle.outcomes.proofs.changes.all_changes.Given as goal

-- the changes of the cells so far
abbrev pub invariant-loop-cell : goal.invariant-loop-cell
invariant-loop-cell l = l.changes.items ≡ changes_below l.opening l.now l.cell
