-- The text of `trace`, as bytes: a line for each reported step, then the simulation text.
use Rattle.std.specs.Prelude.{ℕ, Bool, true, if◌then◌else◌, List, [], ◌∷◌, ◌++◌, Option, Some, None}
use Rattle.std.specs.Prelude.{codes}
use Rattle.std.specs.Fmt.{decimal}
use Rattle.core_lang.specs.declared.tree.Section.{Section}
use Rattle.core_lang.specs.Serial.{Invocation}
use Rattle.code.specs.Listing.{line, text_at, instr_text}
use Rattle.code.specs.LineTables.{place_text}
use Rattle.code.specs.Lowering.{section_code, lists_at}
use Rattle.lowering.specs.Plans.{Plan}
use Rattle.worlds.specs.declared.event.Event.{Event}
use Rattle.worlds.specs.declared.event.Event.TheVariants.{Idle, Began, Got, Waits, Moved, Ended}
use Rattle.worlds.specs.Worlds.{World, call_at, happens, opening_world, final}
use Rattle.interleavings.specs.declared.coming.Coming.{Coming}
use Rattle.interleavings.specs.declared.coming.Coming.TheVariants as coming
use Rattle.interleavings.specs.Coming.{coming_to}
use Rattle.report.specs.Pieces.{invocation_text, lock_text}
use Rattle.report_runs.specs.Simulation.{simulation_of}

-- whether an event is reported: instructions and steps that do nothing only where they are asked for
abbrev pub is_told : Bool → Bool → Event → Bool
is_told moves all Moved = moves
is_told moves all Idle = all
is_told moves all _ = true

-- over a program's text and its plan
module _ (text : List ℕ) (plan : Plan) where
  -- NAME(ARGS) of a call
  abbrev pub call_text : Option Invocation → List ℕ
  call_text None = []
  call_text (Some call) = invocation_text plan.program call.section call.arguments

  -- LINE:COL TEXT of the instruction at a place of a section with these lists, as in the listing with places
  abbrev pub text_in : List (List ℕ) → ℕ → Section → List ℕ
  text_in lists place section =
      text_at (λ i. place_text text lists section place ++ instr_text plan.program section lists place i)
      (section_code lists section) place

  -- the same at a place of the section with this number
  abbrev pub instruction_text : ℕ → ℕ → List ℕ
  instruction_text k place = text_at (text_in (lists_at plan.lists k) place) plan.program.sections.items k

  -- the call that a thread's step begins, or the instruction that it runs
  abbrev pub coming_text : ℕ → Coming → List ℕ
  coming_text t (coming.Call step) = call_text (call_at plan t step)
  coming_text t (coming.Instruction k place) = instruction_text k place
  coming_text t coming.Other = []

  -- what a thread's step did, given what it began or ran and its event
  abbrev pub event_text : ℕ → Coming → Event → List ℕ
  event_text t c Idle = codes "idle"
  event_text t c Began = codes "began " ++ coming_text t c
  event_text t c (Got lock) = codes "got " ++ lock_text plan.program lock
  event_text t c (Waits lock holder) =
      codes "waits " ++ lock_text plan.program lock ++ codes " for " ++ decimal holder
  event_text t c Moved = codes "moved " ++ coming_text t c
  event_text t c (Ended position) = codes "ended at " ++ decimal position

  -- THREAD TEXT
  abbrev pub step_text : Bool → Bool → ℕ → Coming → Event → List ℕ
  step_text moves all t c e = if is_told moves all e then line (decimal t ++ codes " " ++ event_text t c e) else []

  -- the lines of steps of these threads, starting in a world
  abbrev pub steps_text : Bool → Bool → World → List ℕ → List ℕ
  steps_text moves all w [] = []
  steps_text moves all w (t ∷ ts) =
      step_text moves all t (coming_to w t) (happens plan w t).0 ++ steps_text moves all (happens plan w t).1 ts

  -- the whole text of steps of these threads, where instructions and steps that do nothing are reported or not
  abbrev pub trace_text : Bool → Bool → List ℕ → List ℕ
  trace_text moves all steps = steps_text moves all (opening_world plan) steps ++ simulation_of plan (final plan steps)
