-- Items that make threads wait for each other: round after round, in each of which one thread goes to its next lock,
-- each other as far as it can, and then the first to the end of its call.
use Rattle.std.specs.Prelude.{ℕ, zero, suc, ◌+◌, ◌-◌, ◌==◌, ◌&&◌, not, Bool, true, false, if◌then◌else◌, List, [], ◌∷◌, length, replicate}
use Rattle.std.specs.Prelude.{Option, Some, None}
use Rattle.std.specs.List.{find, range_with_len}
use Rattle.std.specs.Option.{option_map, option_or}
use Rattle.interleavings.specs.Items.{is_stopped, steps_until}
use Rattle.interleavings.specs.Statuses.{status_of}
use Rattle.lowering.specs.Plans.{Plan}
use Rattle.interleavings.specs.declared.waiting.NextItem.{NextItem}
use Rattle.interleavings.specs.declared.waiting.Stage.{Stage}
use Rattle.interleavings.specs.declared.waiting.Stage.TheVariants.{Round, Others}
use Rattle.input_files.specs.declared.item.Item.{Item}
use Rattle.input_files.specs.declared.item.Until.{Until}
use Rattle.input_files.specs.declared.item.Until.TheVariants.{Count, Stop, CallEnd}
use Rattle.input_files.specs.Steps.{STEP_LIMIT}
use Rattle.worlds.specs.declared.event.Event.{Event}
use Rattle.worlds.specs.declared.event.Event.TheVariants.{Began, Moved}
use Rattle.worlds.specs.Worlds.{World, happens, world_after, opening_world}

-- ---- which thread

-- a step gets the thread on: it is not idle, and does not wait
abbrev pub can_go : Plan → World → ℕ → Bool
can_go plan w t = not (is_stopped (status_of plan w t))

-- the number of threads of the program
abbrev pub threads_in : Plan → ℕ
threads_in plan = length plan.program.threads.items

-- the first thread, from the number `from` on and except `besides`, that can go on
abbrev pub first_to_go : Plan → World → ℕ → ℕ → Option ℕ
first_to_go plan w besides from =
    find (λ t. can_go plan w t && not (t == besides)) (range_with_len from (threads_in plan - from))

-- the thread of a round: the first from the number `from` on that can go on, or otherwise the first of all that can
abbrev pub leader : Plan → World → ℕ → Option ℕ
leader plan w from = option_or (first_to_go plan w (threads_in plan) from) (first_to_go plan w (threads_in plan) 0)

-- ---- how far it goes

-- a step with this event leaves its thread on the way to its next lock
abbrev pub is_on_way : Event → Bool
is_on_way Began = true
is_on_way Moved = true
is_on_way _ = false

-- the number of steps to the first by which a thread gets a lock, waits, ends its call or is idle; none if that is more
-- than are left
unfoldable pub to_lock : Plan → ℕ → ℕ → World → Option ℕ
to_lock plan t zero w = None
to_lock plan t (suc left) w =
    if is_on_way (happens plan w t).0 then option_map (λ more. 1 + more) (to_lock plan t left (happens plan w t).1)
    else Some 1

-- ---- the next item

-- an item of a thread, its number of steps, and the stage after it
abbrev pub next_of : ℕ → Until → Stage → ℕ → NextItem
next_of t until after count =
    record { item = record { thread = t; until = until; start = 0 }; count = count; after = after }

-- the first item of a round, if a thread leads it: this thread's steps to its next lock
abbrev pub led_by : Plan → ℕ → World → Option ℕ → Option NextItem
led_by plan left w None = None
led_by plan left w (Some t) = option_map (λ count. next_of t (Count count) (Others t 0) count) (to_lock plan t left w)

-- the next item of a thread's round: another thread as far as it can; or, if no other can go on, the thread itself to
-- the end of its call
abbrev pub followed_by : Plan → ℕ → World → ℕ → Option ℕ → Option NextItem
followed_by plan left w t (Some other) =
    option_map (next_of other Stop (Others t (other + 1))) (steps_until plan other left w Stop)
followed_by plan left w t None = option_map (next_of t CallEnd (Round (t + 1))) (steps_until plan t left w CallEnd)

-- the next item; none if no thread can go on, or its steps are more than are left
abbrev pub next_item : Plan → ℕ → World → Stage → Option NextItem
next_item plan left w (Round from) = led_by plan left w (leader plan w from)
next_item plan left w (Others t from) = followed_by plan left w t (first_to_go plan w t from)

-- ---- all of them

-- an item, if one comes next, and those after it
abbrev pub and_after : Option NextItem → (NextItem → List Item) → List Item
and_after None after = []
and_after (Some next) after = next.item ∷ after next

-- at most the given number of items, with the given number of steps left, from a world on
unfoldable pub rivals_from : Plan → ℕ → ℕ → World → Stage → List Item
rivals_from plan zero left w stage = []
rivals_from plan (suc most) left w stage =
    and_after (next_item plan left w stage)
    (λ (next : NextItem).
    rivals_from plan most (left - next.count) (world_after plan w (replicate next.count next.item.thread)) next.after)

-- from the opening world, with all steps left, the first thread's round first
abbrev pub rivals_of : Plan → ℕ → List Item
rivals_of plan most = rivals_from plan most STEP_LIMIT (opening_world plan) (Round 0)
