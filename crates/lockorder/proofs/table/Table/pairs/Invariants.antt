use Rattle.lockorder.proofs.Listed.{AreListed}
use Rattle.lockorder.proofs.table.Table.pairs.Given as goal

abbrev pub invariant-loop-from : goal.invariant-loop-from
invariant-loop-from l = AreListed l.self.before.items l.from 0 l.pairs.items

abbrev pub invariant-loop-to : goal.invariant-loop-to
invariant-loop-to l = AreListed l.self.before.items l.from l.to l.pairs.items
