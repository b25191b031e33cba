use Rattle.std.proofs.Common.{◌≡◌, ◌++◌, map, drop}
use Rattle.core_lang.specs.Serial.{scripts_from, all_calls}
use Rattle.driver.specs.Working.Running.{scheduled_of}
use Rattle.driver.proofs.schedule.schedule.Given as goal

-- the calls so far and those of the remaining scripts are all calls
abbrev pub invariant-loop-thread : goal.invariant-loop-thread
invariant-loop-thread l =
    map scheduled_of l.all.items ++ scripts_from l.thread (drop l.thread l.program.threads.items) ≡ all_calls l.program
