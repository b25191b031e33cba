use Rattle.std.proofs.Common.{◌≡◌, ◌++◌, map, drop}
use Rattle.core_lang.specs.Serial.{script_from}
use Rattle.driver.specs.Working.Running.{scheduled_of}
use Rattle.driver.proofs.schedule.push_script.Given as goal

-- the calls so far and the remaining ones are all calls of the script
abbrev pub invariant-loop-step : goal.invariant-loop-step
invariant-loop-step l =
    map scheduled_of l.all.items ++ script_from l.thread l.step (drop l.step l.calls)
    ≡ map scheduled_of l.initial.all.items ++ script_from l.thread 0 l.calls
