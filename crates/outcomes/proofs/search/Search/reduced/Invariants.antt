use Rattle.std.proofs.Common.{◌≡◌, ◌+◌, ◌-◌, List, [], length}
use Rattle.core_lang.specs.Serial.{opening_heap}
use Rattle.core_lang.specs.WellFormed.{calls_together}
use Rattle.outcomes.specs.Ends.{Configuration}
use Rattle.outcomes.specs.Working.Searching.{AreGood}
use Rattle.outcomes.specs.Working.Steps.{IsBack, start_of}
use Rattle.outcomes.specs.Working.Reducing.{Covers}
use Rattle.outcomes.proofs.Configurations.{AreLedBelow}
use Rattle.outcomes.proofs.Remaining.{CountsLeft}
use Rattle.outcomes.proofs.search.Search.reduced.Given as goal

-- each order goes through a state of the layer
abbrev pub invariant-loop-depth : goal.invariant-loop-depth
invariant-loop-depth l = record {
  back : IsBack l.self l.work;
  empty : l.work.next.states ≡ [];
  opening : l.layer.opening ≡ opening_heap l.self.program.now;
  layer : AreGood l.self.program.now l.self.turns l.depth (start_of l.self) l.work.trail l.layer.states;
  counts : CountsLeft l.self l.groups l.depth l.layer.states;
  covers : Covers l.self (calls_together l.self.program.now.threads.items - l.depth) l.layer.states;
  before : (configurations : List Configuration) × AreLedBelow l.self.program.now l.self.turns l.self.asked.now.answers l.depth configurations
      × (length configurations + length l.layer.states ≡ length l.work.trail);
}
