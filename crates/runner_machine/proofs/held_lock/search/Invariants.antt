use Rattle.std.proofs.Common.{◌≤◌, ◌-◌}
use Rattle.runner_machine.specs.Working.Finding.{IsObjectNowhere}
use Rattle.runner_machine.proofs.held_lock.search.Given as goal

abbrev pub invariant-loop-low : goal.invariant-loop-low
invariant-loop-low l = record {
  begun : l.head ≤ l.low;
  ends : l.high ≤ l.end;
  below : IsObjectNowhere l.held l.head l.low l.object;
  above : IsObjectNowhere l.held l.high l.end l.object;
}

abbrev pub decreases-loop-low : goal.decreases-loop-low
decreases-loop-low l = l.high - l.low
