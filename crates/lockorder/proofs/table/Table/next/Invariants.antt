use Rattle.std.proofs.Common.{◌<◌, ℕ}
use Rattle.lockorder.specs.Working.Tables.{IsReadyIn}
use Rattle.lockorder.proofs.table.Table.next.Given as goal

abbrev pub invariant-loop-class : goal.invariant-loop-class
invariant-loop-class l = (c : ℕ) → c < l.class → IsReadyIn l.self.before.items l.listed c → ⊥
