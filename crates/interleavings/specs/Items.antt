-- The steps of the items of a steps file.
use Rattle.std.specs.Prelude.{ℕ, zero, suc, ◌+◌, ◌-◌, Bool, true, false, if◌then◌else◌, nat_le, List, [], ◌∷◌, replicate}
use Rattle.std.specs.Prelude.{Option, Some, None, Result, Ok, Err}
use Rattle.lowering.specs.Plans.{Plan}
use Rattle.input_files.specs.declared.item.Item.{Item}
use Rattle.input_files.specs.declared.item.Until.{Until}
use Rattle.input_files.specs.declared.item.Until.TheVariants.{Count, Stop, CallEnd}
use Rattle.input_files.specs.declared.steps_refusal.StepsCode.TheVariants.{TooManySteps}
use Rattle.input_files.specs.declared.steps_refusal.StepsFault.{StepsFault}
use Rattle.input_files.specs.declared.turn.Turn.{Turn}
use Rattle.input_files.specs.Steps.{in_front, items_in, STEP_LIMIT}
use Rattle.worlds.specs.declared.event.Event.{Event}
use Rattle.worlds.specs.declared.event.Event.TheVariants.{Ended}
use Rattle.worlds.specs.Worlds.{World, happens, world_after, opening_world}
use Rattle.interleavings.specs.declared.status.ThreadStatus.{ThreadStatus}
use Rattle.interleavings.specs.declared.status.ThreadStatus.TheVariants.{Idle, Waits}
use Rattle.interleavings.specs.Statuses.{status_of}

-- ---- one item: its number of steps, or none if that is more than are left

-- the thread has no call left
abbrev pub is_idle : ThreadStatus → Bool
is_idle Idle = true
is_idle _ = false

-- a thread with this status makes no step of `T!`
abbrev pub is_stopped : ThreadStatus → Bool
is_stopped Idle = true
is_stopped (Waits lock holder) = true
is_stopped _ = false

-- a step with this event, and the steps after it, unless it ended the call
abbrev pub one_and : Event → Option ℕ → Option ℕ
one_and (Ended position) more = Some 1
one_and _ (Some more) = Some (1 + more)
one_and _ None = None

-- `T!`: no step if the thread waits or is idle; otherwise one, and those from the world after it on
unfoldable pub until_stop : Plan → ℕ → ℕ → World → Option ℕ
until_stop plan t zero w = if is_stopped (status_of plan w t) then Some 0 else None
until_stop plan t (suc left) w =
    if is_stopped (status_of plan w t) then Some 0
    else one_and (happens plan w t).0 (until_stop plan t left (happens plan w t).1)

-- `T+`: no step if the thread is idle; otherwise one, even if it waits, and those from the world after it on as for
-- `T!`
abbrev pub until_call_end : Plan → ℕ → ℕ → World → Option ℕ
until_call_end plan t zero w = if is_idle (status_of plan w t) then Some 0 else None
until_call_end plan t (suc left) w =
    if is_idle (status_of plan w t) then Some 0
    else one_and (happens plan w t).0 (until_stop plan t left (happens plan w t).1)

-- the number of steps of an item of this thread; none if that is more than are left
abbrev pub steps_until : Plan → ℕ → ℕ → World → Until → Option ℕ
steps_until plan t left w (Count count) = if nat_le count left then Some count else None
steps_until plan t left w Stop = until_stop plan t left w
steps_until plan t left w CallEnd = until_call_end plan t left w

-- ---- all items

-- the item's turn and what follows it, or the fault that it has too many steps
abbrev pub turn_and : Item → Option ℕ → (ℕ → Result (List Turn) StepsFault) → Result (List Turn) StepsFault
turn_and item None rest = Err (record { code = TooManySteps; start = item.start })
turn_and item (Some count) rest = in_front (record { thread = item.thread; count = count } ∷ []) (rest count)

-- a turn for each item, from a world on, with the given number of steps left; or the fault of the first item with too
-- many
abbrev pub turns_from : Plan → ℕ → World → List Item → Result (List Turn) StepsFault
turns_from plan left w [] = Ok []
turns_from plan left w (item ∷ items) =
    turn_and item (steps_until plan item.thread left w item.until)
    (λ count. turns_from plan (left - count) (world_after plan w (replicate count item.thread)) items)

-- a turn for each item, from the opening world on, with all steps left; or the fault S3 at the first item with too many
abbrev pub turns_of : Plan → List Item → Result (List Turn) StepsFault
turns_of plan items = turns_from plan STEP_LIMIT (opening_world plan) items

-- the turns of a steps file's items
abbrev pub turns_said : Plan → Result (List Item) StepsFault → Result (List Turn) StepsFault
turns_said plan (Ok items) = turns_of plan items
turns_said plan (Err fault) = Err fault

-- the turns of the items of a steps file's text, or its fault
abbrev pub turns_in : Plan → List ℕ → Result (List Turn) StepsFault
turns_in plan text = turns_said plan (items_in plan.program.threads.items text)
