-- The text that a step writer has written. Nobody has to believe this file.
use Rattle.std.specs.Prelude.{◌≡◌, ℕ, Bool, List, ◌++◌, String, string_bytes}
use Rattle.lowering.specs.Plans.{Plan}
use Rattle.worlds.specs.declared.event.Event.{Event}
use Rattle.worlds.specs.Worlds.{call_at}
use Rattle.interleavings.specs.declared.coming.Coming.{Coming}
use Rattle.interleavings.specs.Threads.{ThreadsOf, with_steps}
use Rattle.report_runs.specs.declared.step_teller.StepWriter.{StepWriter}
use Rattle.report_runs.specs.Trace.{call_text, instruction_text, coming_text, event_text, step_text, steps_text}

-- a writer of the steps of the program with this text
pub record IsTellerOf (text : List ℕ) (plan : Plan) (moves all : Bool) (x : StepWriter) : Type 0 where
  pub text_is : x.text.now ≡ text
  pub plan_is : x.program.now ≡ plan
  pub moves_is : x.moves ≡ moves
  pub all_is : x.all ≡ all

abbrev pub call_told : StepWriter → ℕ → ℕ → List ℕ
call_told x t step = call_text x.text.now x.program.now (call_at x.program.now t step)

abbrev pub instruction_told : StepWriter → ℕ → ℕ → List ℕ
instruction_told x k place =
    instruction_text x.text.now x.program.now k place

abbrev pub coming_told : StepWriter → ℕ → Coming → List ℕ
coming_told x = coming_text x.text.now x.program.now

abbrev pub event_told : StepWriter → ℕ → Coming → Event → List ℕ
event_told x = event_text x.text.now x.program.now

abbrev pub step_told : StepWriter → ℕ → Coming → Event → List ℕ
step_told x = step_text x.text.now x.program.now x.moves x.all

-- these steps were made, and their lines follow what was written before
pub record Tells {Z : Type 0} (x : StepWriter) (steps : List ℕ) (old new : ThreadsOf) (before after : String Z) : Type 0 where
  pub world : new ≡ with_steps old steps
  pub lines : string_bytes after ≡ string_bytes before ++ steps_text x.text.now x.program.now x.moves x.all old.world steps
