use Rattle.std.proofs.Common.{◌≡◌, None, take}
use Rattle.std.specs.List.{flat_map}
use Rattle.source.specs.Mistakes.{least_of}
use Rattle.lockpaths.specs.Working.Faulted.{faults_in}
use Rattle.lockpaths.specs.Working.Numbers.{AreEach}
use Rattle.lockpaths.proofs.program.gather.Given as goal

abbrev pub invariant-loop-section : goal.invariant-loop-section
invariant-loop-section l = record {
  least : l.least ≡ least_of None (flat_map (faults_in l.program) (take l.section-index l.section-items));
  found : l.least ≡ None → AreEach l.program (take l.section-index l.section-items) l.sections.items;
}
