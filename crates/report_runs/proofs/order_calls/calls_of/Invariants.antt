use Rattle.std.proofs.Common.{◌≡◌, ◌++◌, drop, map}
use Rattle.core_lang.specs.Serial.{all_calls, scripts_from}
use Rattle.report.specs.Entry.{scheduled_called}
use Rattle.report_runs.proofs.order_calls.calls_of.Given as goal

-- the calls so far and those of the remaining scripts are all calls
abbrev pub invariant-loop-thread : goal.invariant-loop-thread
invariant-loop-thread l =
    map scheduled_called l.calls.items ++ scripts_from l.thread (drop l.thread l.program.threads.items) ≡ all_calls l.program
