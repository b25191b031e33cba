use Rattle.std.proofs.Common.{◌≡◌, take}
use Rattle.core_lang.specs.Serial.{opening_heap}
use Rattle.outcomes.specs.Ends.{seen_cells}
use Rattle.outcomes.specs.Working.Steps.{AreEndsOfStates, IsBack}
use Rattle.outcomes.proofs.search.Search.ends_of.Given as goal

-- the ends of the states so far
abbrev pub invariant-loop-number : goal.invariant-loop-number
invariant-loop-number l = record {
  ends : AreEndsOfStates l.self l.initial.work.trail (take l.number l.layer.states) l.ends.states;
  over : l.ends.opening ≡ seen_cells l.self.asked.now.cells (opening_heap l.self.program.now);
  back : IsBack l.self l.work;
  trail : l.work.trail ≡ l.initial.work.trail;
}
