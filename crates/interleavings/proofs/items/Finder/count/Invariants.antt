use Rattle.std.proofs.Common.{take}
use Rattle.interleavings.specs.Working.Found.{CountsItems}
use Rattle.interleavings.proofs.items.Finder.count.Given as goal

abbrev pub invariant-loop-item : goal.invariant-loop-item
invariant-loop-item l = CountsItems (take l.item-index l.items) l.fn.self l.self
