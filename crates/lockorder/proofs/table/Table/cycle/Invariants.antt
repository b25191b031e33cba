use Rattle.std.proofs.Common.{◌<◌, ℕ}
use Rattle.lockorder.specs.Working.Tables.{IsOnCycle}
use Rattle.lockorder.proofs.table.Table.cycle.Given as goal

abbrev pub invariant-loop-class : goal.invariant-loop-class
invariant-loop-class l = (c : ℕ) → c < l.class → IsOnCycle l.self.before.items c → ⊥
