use Rattle.std.proofs.Common.{◌≡◌, ◌++◌, drop, map}
use Rattle.core_lang.specs.Serial.{script_from}
use Rattle.report.specs.Entry.{scheduled_called}
use Rattle.report_runs.proofs.order_calls.add_calls.Given as goal

-- the calls so far and the remaining ones are the whole script
abbrev pub invariant-loop-step : goal.invariant-loop-step
invariant-loop-step l =
    map scheduled_called l.calls.items ++ script_from l.thread l.step (drop l.step l.script)
    ≡ map scheduled_called l.initial.calls.items ++ script_from l.thread 0 l.script
