-- The meaning of the C of a compiled program.
use Rattle.std.specs.Prelude.{◌≡◌, ℕ, List, slice_get, Some}
use Rattle.core_lang.specs.declared.tree.Section.{Section}
use Rattle.core_lang.specs.Serial.{Invocation, opening_heap}
use Rattle.code.specs.Lowering.{lists_at}
use Rattle.c_language.specs.Alike.{AreFitting}
use Rattle.c_language.specs.InC.{BehavesInC}
use Rattle.lowering.specs.Plans.{Plan}
use Rattle.c_threads.specs.Outside.{AreCallsOf}
use Rattle.c_threads.specs.Claims.{HaveFittingArguments, OutsideRun}

-- numbers have 64 bits in the initial cells; and the C of each section, run alone, behaves as the section
pub record SectionsMean (plan : Plan) : Type 0 where
  pub opens : AreFitting (opening_heap plan.program)
  pub each : (k : ℕ) (section : Section) → slice_get plan.program.sections.items k ≡ Some section →
      BehavesInC ℕ plan.program section (lists_at plan.lists k)

-- threads that make any calls of the sections, within the limits of programs, run in C as the headline says
abbrev pub ThreadsMean : Plan → Type 0
ThreadsMean plan =
    (calls : List (List Invocation)) (steps : List ℕ) → AreCallsOf plan.accepted calls → HaveFittingArguments calls →
    OutsideRun plan calls steps
