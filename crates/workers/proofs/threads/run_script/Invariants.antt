use Rattle.std.proofs.Common.{◌≡◌, ◌≤◌, List, map, take, Some}
use Rattle.core_lang.specs.Serial.{Invocation}
use Rattle.workers.specs.Answers.{call_in, script_at}
use Rattle.workers.proofs.threads.run_script.Given as goal

abbrev pub invariant-loop-step : goal.invariant-loop-step
invariant-loop-step g l = record {
  same : l.seat.thread ≡ l.thread;
  within : l.step ≤ l.count;
  ran : (script : List Invocation) → script_at g.J.Naming.plan l.thread ≡ Some script →
      map call_in l.seat.answers ≡ take l.step script;
}
