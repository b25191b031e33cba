use Rattle.std.proofs.Common.{map, drop}
use Rattle.core_lang.specs.Typing.{IsHeap, HasCells}
use Rattle.report.specs.Entry.{entry_of}
use Rattle.driver.specs.Working.Running.{scheduled_of}
use Rattle.driver.proofs.RunningLemmas.{GoesOn}
use Rattle.driver.proofs.running.run_calls.Given as goal

-- the entries so far and those of the remaining calls are the entries of all calls
abbrev pub invariant-loop-next : goal.invariant-loop-next
invariant-loop-next l = record {
  goes : GoesOn l.turns l.prepared.program.now (map scheduled_of l.calls) (map entry_of l.records.items) l.heap (map scheduled_of (drop l.next-index l.calls));
  cells : HasCells l.prepared.program.now l.heap;
  typed : IsHeap l.prepared.program.now l.heap;
}
