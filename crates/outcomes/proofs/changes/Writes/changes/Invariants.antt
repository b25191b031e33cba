use Rattle.std.proofs.Common.{◌≡◌, ◌≤◌, length}
use Rattle.outcomes.specs.Working.Changes.{changes_below}
use Rattle.outcomes.proofs.ChangeLemmas.{ArePassed}
use Rattle.outcomes.proofs.changes.Writes.changes.Given as goal

-- the changes of the cells below one
abbrev pub invariant-loop-cell : goal.invariant-loop-cell
invariant-loop-cell l = record {
  changes : l.changes.items ≡ changes_below l.self.opening.now l.now l.below;
  few : l.below ≤ length l.now;
  passed : ArePassed l.cell-items (length l.now) l.cell-index l.below;
}
