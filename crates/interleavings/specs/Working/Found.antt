-- Runs of instructions, and the results of the search for turns so far. Nobody has to believe this file.
use Rattle.std.specs.Prelude.{◌≡◌, ◌<◌, ℕ, ◌+◌, ◌-◌, Bool, true, false, nat_le, if◌then◌else◌, List, [], ◌∷◌, ◌++◌, replicate, ⊤}
use Rattle.std.specs.Prelude.{Option, Some, None, MatchOption, Result, Ok, Err}
use Rattle.std.specs.List.{list_all}
use Rattle.lowering.specs.Plans.{Plan}
use Rattle.input_files.specs.declared.item.Item.{Item}
use Rattle.input_files.specs.declared.item.Until.{Until}
use Rattle.input_files.specs.declared.item.Until.TheVariants.{Count, Stop, CallEnd}
use Rattle.input_files.specs.declared.steps_refusal.StepsCode.TheVariants.{TooManySteps}
use Rattle.input_files.specs.declared.steps_refusal.StepsFault.{StepsFault}
use Rattle.input_files.specs.declared.turn.Turn.{Turn}
use Rattle.input_files.specs.Steps.{in_front}
use Rattle.worlds.specs.declared.event.Event.{Event}
use Rattle.worlds.specs.declared.event.Event.TheVariants.{Moved, Ended}
use Rattle.worlds.specs.Worlds.{happens, world_after}
use Rattle.interleavings.specs.Threads.{ThreadsOf, with_steps, at_opening, StopsAtBegin}
use Rattle.interleavings.specs.Items.{turn_and, turns_from}
use Rattle.interleavings.specs.declared.items.Finder.{Finder}

-- ---- steps

-- each of the given number of steps of a thread is an instruction
abbrev pub AreMoves : ThreadsOf → ℕ → ℕ → Type 0
AreMoves w t count =
    (k : ℕ) → k < count → (happens w.plan (world_after w.plan w.world (replicate k t)) t).0 ≡ Moved

abbrev pub is_end : Event → Bool
is_end (Ended position) = true
is_end _ = false

-- the given number of steps of a thread were taken, if the number is known
abbrev pub Takes : ℕ → Option ℕ → ThreadsOf → ThreadsOf → Type 0
Takes t count old new = MatchOption count ⊤ (λ n. new ≡ with_steps old (replicate n t))

-- the thread's steps stopped before one that would have begun a call; those before it were taken
abbrev pub Stops : ℕ → ThreadsOf → ThreadsOf → Type 0
Stops t old new = (n : ℕ) × StopsAtBegin old (replicate n t) new

-- the number with more added, if it is known
abbrev pub plus : ℕ → Option ℕ → Option ℕ
plus count None = None
plus count (Some more) = Some (count + more)

-- ---- items that need no run

abbrev pub is_counted : Until → Bool
is_counted (Count count) = true
is_counted Stop = false
is_counted CallEnd = false

abbrev pub are_counted : List Item → Bool
are_counted items = list_all (λ (item : Item). is_counted item.until) items

-- the number of steps that the item counts, if at least that many are left
abbrev pub count_within : ℕ → Until → Option ℕ
count_within left (Count count) = if nat_le count left then Some count else None
count_within left Stop = None
count_within left CallEnd = None

abbrev pub counted_turns : ℕ → List Item → Result (List Turn) StepsFault
counted_turns left [] = Ok []
counted_turns left (item ∷ items) =
    turn_and item (count_within left item.until) (λ count. counted_turns (left - count) items)

-- ---- what was found

abbrev pub too_much : Item → StepsFault
too_much item = record { code = TooManySteps; start = item.start }

-- the item's turn was added, and its steps were subtracted from those left
abbrev pub Adds : Item → Option ℕ → Finder → Finder → Type 0
Adds item None old new = ⊥
Adds item (Some count) old new =
    (new.turns.items ≡ old.turns.items ++ record { thread = item.thread; count = count } ∷ []) × (new.left ≡ old.left - count)

abbrev pub IsTooMuch : Item → Option ℕ → StepsFault → Type 0
IsTooMuch item count fault = (count ≡ None) × (fault ≡ too_much item)

-- these items were run: whatever items follow, all turns are the same as with these items still to come
pub record RunsItems (items : List Item) (old : Finder) (first : ThreadsOf) (new : Finder) (last : ThreadsOf) : Type 0 where
  pub plan : last.plan ≡ first.plan
  pub found : (more : List Item) →
      in_front new.turns.items (turns_from first.plan new.left last.world more)
      ≡ in_front old.turns.items (turns_from first.plan old.left first.world (items ++ more))

-- these items have the fault, whatever items follow
abbrev pub RunIsTooMuch : List Item → Finder → ThreadsOf → StepsFault → Type 0
RunIsTooMuch items old first fault =
    (more : List Item) → turns_from first.plan old.left first.world (items ++ more) ≡ Err fault

-- these items were run from the opening world on
abbrev pub RunsFromOpening : Plan → List Item → Finder → Finder → Type 0
RunsFromOpening plan items old new = (last : ThreadsOf) × RunsItems items old (at_opening plan) new last

-- these items, which count their steps, were passed: whatever items follow, all turns are the same as with these still
-- to come
abbrev pub CountsItems : List Item → Finder → Finder → Type 0
CountsItems items old new =
    (more : List Item) →
    in_front new.turns.items (counted_turns new.left more)
    ≡ in_front old.turns.items (counted_turns old.left (items ++ more))

abbrev pub CountIsTooMuch : List Item → Finder → StepsFault → Type 0
CountIsTooMuch items old fault = (more : List Item) → counted_turns old.left (items ++ more) ≡ Err fault
