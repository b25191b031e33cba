use Rattle.code.specs.Memory.{IsPartOf}
use Rattle.lock_manager.specs.Working.Calls.{KeepsEntries}
use Rattle.runner.specs.Working.Opens.{IsKnown, IsSame}
use Rattle.runner.specs.Working.Laws.{memory_of}
use Rattle.workers.proofs.asking.ask_on.Given as goal

abbrev pub invariant-loop-granted : goal.invariant-loop-granted
invariant-loop-granted l = record {
  same : IsSame l.fn.asking l.asking;
  entries : KeepsEntries l.fn.manager l.manager;
  known : IsKnown l.manager l.asking;
  part : IsPartOf l.fn.manager.values (memory_of l.fn.asking) → IsPartOf l.fn.manager.values (memory_of l.asking);
}
