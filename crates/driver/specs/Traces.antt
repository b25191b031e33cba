-- The answers of `trace`.
use Rattle.std.specs.Prelude.{◌≡◌, ℕ, Bool, List, [], Ok}
use Rattle.lowering.specs.Plans.{Plan}
use Rattle.input_files.specs.declared.turn.Turn.{Turn}
use Rattle.input_files.specs.Turns.{steps_of}
use Rattle.worlds.specs.Claims.{Headline}
use Rattle.interleavings.specs.Items.{turns_in}
use Rattle.report_runs.specs.Trace.{trace_text}
use Rattle.driver.specs.declared.status.Status.{Status}
use Rattle.driver.specs.declared.status.Status.TheVariants.{Done}
use Rattle.driver.specs.Simulations.{HasBadSteps}

-- the file's items expand to these turns: out is the text of their reported steps and of the world after them, and the
-- headline holds of these steps; err is empty
pub record IsTold (moves all : Bool) (text items : List ℕ) (plan : Plan) (status : Status) (out err : List ℕ) : Type 0 where
  pub turns : List Turn
  pub said : turns_in plan items ≡ Ok turns
  pub headline : Headline plan (steps_of turns)
  pub ended : status ≡ Done
  pub written : out ≡ trace_text text plan moves all (steps_of turns)
  pub told : err ≡ []

-- the answers of `trace` for a program with this text and a steps file's text; `moves` and `all` say whether
-- instructions and idle steps are reported
pub data IsTraceAnswer (moves all : Bool) (steps_file text items : List ℕ) (plan : Plan) (status : Status) (out err : List ℕ) : Type 0 where
  traced : IsTold moves all text items plan status out err → IsTraceAnswer moves all steps_file text items plan status out err
  bad_steps : HasBadSteps steps_file items plan status out err →
      IsTraceAnswer moves all steps_file text items plan status out err
