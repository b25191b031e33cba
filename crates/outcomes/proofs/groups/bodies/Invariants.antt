use Rattle.std.proofs.Common.{take}
use Rattle.outcomes.specs.Working.Listing.{AreListed}
use Rattle.outcomes.proofs.groups.bodies.Given as goal

abbrev pub invariant-loop-section : goal.invariant-loop-section
invariant-loop-section l = AreListed l.bodies.items (take l.section-index l.sections)
