use Rattle.std.proofs.Common.{take}
use Rattle.interleavings.specs.Working.Found.{RunsItems}
use Rattle.interleavings.proofs.items.Finder.run.Given as goal

abbrev pub invariant-loop-item : goal.invariant-loop-item
invariant-loop-item l = RunsItems (take l.item-index l.items) l.fn.self l.fn.world l.self l.world
