-- Runs of a program's threads in which all calls end, and the report on all orders of its calls.
use Rattle.std.specs.Prelude.{◌≡◌, ◌<◌, ℕ, Bool, List, length, map, slice_get, Any, Contains, Some, None}
use Rattle.core_lang.specs.declared.value.Value.{Value}
use Rattle.core_lang.specs.Serial.{SerialFromOpening}
use Rattle.history.specs.Commits.{Commit, call_of, answer_of}
use Rattle.lowering.specs.Plans.{Plan, IsCompiled}
use Rattle.outcomes.specs.declared.outcome.Asked.{Asked}
use Rattle.outcomes.specs.Ends.{Left, Told, TellsEveryEnd, answers_after, no_answers, seen}
use Rattle.outcomes.specs.Orders.{orders, calls_in, none_done}
use Rattle.worlds.specs.Worlds.{World, ThreadState, Activation, HasOpen, call_at, final}

-- all calls have ended: no section is open, and no thread has a call left
pub record AllHaveEnded (plan : Plan) (w : World) : Type 0 where
  pub none_open : (t : ℕ) (a : Activation) → HasOpen w t a → ⊥
  pub none_left : (t : ℕ) (thread : ThreadState) → slice_get w.threads t ≡ Some thread →
      call_at plan t thread.step ≡ None

-- each cell holds its value in the heap
abbrev pub HoldsHeap : Plan → World → List Value → Type 0
HoldsHeap plan w heap =
    (cell : ℕ) → cell < length plan.program.cells.items →
    (v : Value) × (slice_get w.cells cell ≡ Some (Some v)) × (slice_get heap cell ≡ Some v)

-- the threads of a history's calls, in its order
abbrev pub order_of : List Commit → List ℕ
order_of history = map (λ (c : Commit). c.thread) history

-- what a history's calls leave: this heap, and their outcomes
abbrev pub left_by : Plan → Bool → List Commit → List Value → Left
left_by plan answers history heap = record {
  cells = heap;
  answers = answers_after plan.accepted (none_done plan.accepted) (order_of history) (map answer_of history) (no_answers answers plan.accepted);
}

-- the order of the history is one of the program's calls, and its calls are the history's. Run whole one after another
-- from the opening cells, they end and print as the history says, and leave the cells of the world. What is seen of
-- that is reported
pub record IsAmongTold (plan : Plan) (w : World) (asked : Asked) (told : List Told) : Type 0 where
  pub heap : List Value
  pub order : Contains (orders plan.accepted) (order_of w.history)
  pub calls : calls_in plan.accepted (order_of w.history) ≡ map call_of w.history
  pub answers : SerialFromOpening plan.accepted (map call_of w.history) (map answer_of w.history) heap
  pub cells : HoldsHeap plan w heap
  pub end : Any (λ (e : Told). e.left ≡ seen asked.cells (left_by plan asked.answers w.history heap)) told

-- the law: this holds after every list of steps with which all calls have ended, where every end is reported, whatever
-- distinguishes the ends
abbrev pub EveryEndIsTold : Type 0
EveryEndIsTold =
    (plan : Plan) (steps : List ℕ) (asked : Asked) (told : List Told) → IsCompiled plan →
    AllHaveEnded plan (final plan steps) → TellsEveryEnd plan.accepted asked told → IsAmongTold plan (final plan steps) asked told
