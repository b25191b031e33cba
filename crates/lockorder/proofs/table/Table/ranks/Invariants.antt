use Rattle.std.proofs.Common.{◌≡◌, length}
use Rattle.lockorder.proofs.Ranked.{AreRanked}
use Rattle.lockorder.proofs.table.Table.ranks.Given as goal

abbrev pub invariant-loop-class : goal.invariant-loop-class
invariant-loop-class l = length l.ranks.items ≡ l._class

abbrev pub invariant-loop-rank : goal.invariant-loop-rank
invariant-loop-rank l = AreRanked l.self.before.items l.listed l.ranks.items l.rank
