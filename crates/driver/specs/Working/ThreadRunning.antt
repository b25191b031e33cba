-- What the code computes of runs. Nobody has to believe this file.
use Rattle.std.specs.Prelude.{◌≡◌, ℕ, List, length}
use Rattle.std.specs.List.{All}
use Rattle.lowering.specs.Plans.{Plan}
use Rattle.report_runs.specs.declared.seen.Seen.{Seen}
use Rattle.report_runs.specs.Runs.{Run}
use Rattle.report_runs.specs.Working.Seeing.{HasSeen}
use Rattle.driver.specs.declared.threads_run.Ran.{Ran}
use Rattle.driver.specs.ThreadRuns.{IsRunOf}

-- the history of a run that is over, and the values that it leaves
abbrev pub run_in : Ran → Run
run_in ran = record { log = ran.closed.history; values = ran.values.items }

abbrev pub is_run : Plan → Ran → Type 0
is_run plan ran = IsRunOf plan (run_in ran)

-- the given number of runs was seen
pub record HasSeenRuns (plan : Plan) (count : ℕ) (seen : Seen) : Type 0 where
  pub runs : List Run
  pub as_many : length runs ≡ count
  pub are_runs : All (IsRunOf plan) runs
  pub kept : HasSeen plan.program runs seen
