use Rattle.std.proofs.Common.{◌<◌, ℕ}
use Rattle.lockorder.specs.Working.Tables.{InSet, InTable}
use Rattle.lockorder.proofs.table.Table.is_behind.Given as goal

abbrev pub invariant-loop-before : goal.invariant-loop-before
invariant-loop-before l = (b : ℕ) → b < l.before → InTable l.self.before.items b l.class → InSet l.listed b
