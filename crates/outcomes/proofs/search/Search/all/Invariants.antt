use Rattle.std.proofs.Common.{◌≡◌, ℕ, ◌+◌, ◌≤◌, ◌⊎◌, List, [], length}
use Rattle.core_lang.specs.Serial.{opening_heap}
use Rattle.outcomes.specs.Orders.{none_done}
use Rattle.outcomes.specs.Working.Searching.{AreGood, weight, total, Summand}
use Rattle.outcomes.specs.Ends.{Configuration}
use Rattle.outcomes.specs.Working.States.{orders_to}
use Rattle.outcomes.specs.Working.Steps.{IsBack, start_of}
use Rattle.outcomes.proofs.Configurations.{AreConfigurationsBelow}
use Rattle.outcomes.proofs.search.Search.all.Given as goal

-- the sums over the orders from the states of the layer are the sums over all orders, and the orders that lead to these
-- states are within the limit once a call was made
abbrev pub invariant-loop-depth : goal.invariant-loop-depth
invariant-loop-depth l = record {
  back : IsBack l.self l.work;
  empty : l.work.next.states ≡ [];
  opening : l.layer.opening ≡ opening_heap l.self.program.now;
  layer : AreGood l.self.program.now l.self.turns l.depth (start_of l.self) l.work.trail l.layer.states;
  sums : (f : Summand) (left : ℕ) →
      total l.self.program.now l.self.turns f left l.layer.states
      ≡ weight l.self.program.now l.self.turns f (l.depth + left) (none_done l.self.program.now) (start_of l.self);
  few : (orders_to l.layer.states ≤ l.self.most) ⊎ (l.depth ≡ 0);
  before : (configurations : List Configuration) × AreConfigurationsBelow l.self.program.now l.self.turns l.self.asked.now.answers l.depth configurations
      × (length configurations + length l.layer.states ≡ length l.work.trail);
}
