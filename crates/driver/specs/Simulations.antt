-- The answers of `simulate`.
use Rattle.std.specs.Prelude.{◌≡◌, ℕ, List, [], Ok, Err}
use Rattle.lowering.specs.Plans.{Plan}
use Rattle.input_files.specs.declared.turn.Turn.{Turn}
use Rattle.input_files.specs.declared.steps_refusal.StepsFault.{StepsFault}
use Rattle.input_files.specs.Turns.{steps_of}
use Rattle.input_files.specs.Steps.{steps_fault_text}
use Rattle.worlds.specs.Worlds.{final}
use Rattle.worlds.specs.Claims.{Headline}
use Rattle.interleavings.specs.Items.{turns_in}
use Rattle.code.specs.Listing.{line}
use Rattle.report_runs.specs.Simulation.{simulation_of}
use Rattle.driver.specs.declared.status.Status.{Status}
use Rattle.driver.specs.declared.status.Status.TheVariants.{Done, BadInput}

-- the file's items expand to these turns: out is the text of the world after their steps, and the headline holds of
-- these steps; err is empty
pub record IsWorldAfter (items : List ℕ) (plan : Plan) (status : Status) (out err : List ℕ) : Type 0 where
  pub turns : List Turn
  pub said : turns_in plan items ≡ Ok turns
  pub headline : Headline plan (steps_of turns)
  pub ended : status ≡ Done
  pub written : out ≡ simulation_of plan (final plan (steps_of turns))
  pub told : err ≡ []

-- the steps file has a faulty item: out is empty, err is the line of the first fault
pub record HasBadSteps (steps_file items : List ℕ) (plan : Plan) (status : Status) (out err : List ℕ) : Type 0 where
  pub fault : StepsFault
  pub said : turns_in plan items ≡ Err fault
  pub ended : status ≡ BadInput
  pub written : out ≡ []
  pub told : err ≡ line (steps_fault_text steps_file items fault)

-- the answers of `simulate` for a program and a steps file's text
pub data IsSimulated (steps_file items : List ℕ) (plan : Plan) (status : Status) (out err : List ℕ) : Type 0 where
  ran : IsWorldAfter items plan status out err → IsSimulated steps_file items plan status out err
  bad_steps : HasBadSteps steps_file items plan status out err → IsSimulated steps_file items plan status out err
