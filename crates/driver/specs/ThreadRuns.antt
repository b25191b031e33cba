-- The answers of `run`.
use Rattle.std.specs.Prelude.{◌≡◌, ◌<◌, ℕ, List, [], length, Option, Some, None}
use Rattle.std.specs.List.{All}
use Rattle.lowering.specs.Plans.{Plan}
use Rattle.worlds.specs.Claims.{AreOfScripts}
use Rattle.report_runs.specs.Runs.{Run, run_text, runs_text}
use Rattle.workers.specs.Answers.{HasScript, IsHistoryOf, RunsAsAccepted}
use Rattle.driver.specs.declared.status.Status.{Status}
use Rattle.driver.specs.declared.status.Status.TheVariants.{Done, Strange}
use Rattle.driver.specs.Messages.{strange}

-- a run of the program: its calls, run whole one after another, end and print as its history says and leave these
-- values; each thread's entries are its whole script, in order, and there are no other entries
pub record IsRunOf (plan : Plan) (run : Run) : Type 0 where
  pub history : IsHistoryOf plan run.log run.values
  -- the calls do the same in the program as it was accepted, with its helpers
  pub accepted : RunsAsAccepted plan run.log run.values
  pub scripts : (t : ℕ) → t < length plan.program.threads.items → HasScript plan run.log t
  -- no entry is of another thread
  pub nobody_else : AreOfScripts plan run.log

-- there is such a run: out is its history text; err is empty
pub record IsWrittenRun (plan : Plan) (status : Status) (out err : List ℕ) : Type 0 where
  pub run : Run
  pub is_run : IsRunOf plan run
  pub ended : status ≡ Done
  pub written : out ≡ run_text plan.program run
  pub told : err ≡ []

-- there are `times` such runs: out is their text; err is empty
pub record AreWrittenRuns (times : ℕ) (plan : Plan) (status : Status) (out err : List ℕ) : Type 0 where
  pub runs : List Run
  pub as_many : length runs ≡ times
  pub are_runs : All (IsRunOf plan) runs
  pub ended : status ≡ Done
  pub written : out ≡ runs_text plan.program runs
  pub told : err ≡ []

-- the answer for one run, or for the given number of runs
abbrev pub IsWritten : Option ℕ → Plan → Status → List ℕ → List ℕ → Type 0
IsWritten None = IsWrittenRun
IsWritten (Some times) = AreWrittenRuns times

-- the history was not what a thread had left: out is empty, and that is reported
pub record IsStrange (status : Status) (out err : List ℕ) : Type 0 where
  pub ended : status ≡ Strange
  pub written : out ≡ []
  pub told : err ≡ strange

-- the answers of `run` for a program, for one run or for the given number of runs
pub data IsThreadsRun (times : Option ℕ) (plan : Plan) (status : Status) (out err : List ℕ) : Type 0 where
  written : IsWritten times plan status out err → IsThreadsRun times plan status out err
  was_strange : IsStrange status out err → IsThreadsRun times plan status out err
