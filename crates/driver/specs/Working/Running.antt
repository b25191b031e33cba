-- What this crate's functions compute of a program's calls.
use Rattle.std.specs.Prelude.{◌≡◌, ℕ, List, [], ◌∷◌, ◌++◌, map, Option, Some, None, ⊤}
use Rattle.core_lang.specs.declared.typed.Typed.{Typed}
use Rattle.core_lang.specs.Serial.{Scheduled, Ended, Progress, invocation, opening_heap, run_call, serial_with}
use Rattle.core_lang.specs.Whole.{Beyond_turns}
use Rattle.core_lang.specs.WellFormed.{CanCall}
use Rattle.meaning.specs.declared.run.End.{End}
use Rattle.report.specs.Entry.{entry_of}
use Rattle.driver.specs.Serial.{calls_of, entries}
use Rattle.driver.specs.declared.running.Ran.{Ran}
use Rattle.driver.specs.declared.schedule.ScheduledCall.{ScheduledCall}

-- a call of a script, as data
abbrev pub scheduled_of : ScheduledCall → Scheduled
scheduled_of s = record { thread = s.thread; step = s.step; call = invocation s.call.now }

-- how a run ended
abbrev pub ended_of : End → Ended
ended_of end = record { outcome = end.outcome; prints = end.prints.items }

-- each of these calls can be made
abbrev pub CanMake : Typed → List Scheduled → Type 0
CanMake program [] = ⊤
CanMake program (s ∷ ss) = CanCall program s.call.section s.call.arguments × CanMake program ss

-- how far these calls come from the opening heap, one after another
abbrev pub progress_of : ℕ → Typed → List Scheduled → Progress
progress_of turns program ss = serial_with program turns (opening_heap program) (calls_of ss)

-- the call at this place, by its thread and its number there, is the first of these that the turns don't settle
pub record StopsAt (turns : ℕ) (program : Typed) (ss : List Scheduled) (place : ℕ × ℕ) : Type 0 where
  pub before : List Scheduled
  pub this : Scheduled
  pub after : List Scheduled
  pub parts : ss ≡ before ++ this ∷ after
  pub here : place ≡ (this.thread, this.step)
  pub unsettled : (progress_of turns program ss).unsettled ≡ calls_of (this ∷ after)
  pub beyond : run_call program turns this.call (progress_of turns program ss).heap ≡ Beyond_turns

-- the turns settle all of these calls, or not the one at this place
abbrev pub IsStop : ℕ → Typed → List Scheduled → Option (ℕ × ℕ) → Type 0
IsStop turns program ss None = (progress_of turns program ss).unsettled ≡ []
IsStop turns program ss (Some place) = StopsAt turns program ss place

-- these calls of the program ran serially, as far as the turns settle them
pub record IsRan (turns : ℕ) (program : Typed) (ss : List Scheduled) (ran : Ran) : Type 0 where
  pub records : map entry_of ran.records.items ≡ entries ss (progress_of turns program ss).ends
  pub heap : ran.heap ≡ (progress_of turns program ss).heap
  pub stop : IsStop turns program ss ran.unsettled
