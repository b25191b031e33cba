-- The invariants while orders are drawn. Nobody has to believe this file.
use Rattle.std.specs.Prelude.{◌≡◌, ℕ, ◌<◌, zero, suc, Bool, MatchBool, List, [], ◌∷◌, ◌++◌, length, ◌⊎◌, Option, Some, None}
use Rattle.std.specs.Prelude.{All, Contains, option_map, sum_by}
use Rattle.core_lang.specs.declared.typed.Typed.{Typed}
use Rattle.core_lang.specs.declared.typed.Thread.{Thread}
use Rattle.core_lang.specs.Serial.{Invocation, opening_heap}
use Rattle.core_lang.specs.Typing.{IsHeap, HasCells}
use Rattle.core_lang.specs.WellFormed.{calls_together}
use Rattle.outcomes.specs.declared.search.Search.{Search}
use Rattle.outcomes.specs.declared.drawing.Walk.{Walk}
use Rattle.outcomes.specs.declared.drawing.Drawing.{Drawing}
use Rattle.outcomes.specs.Orders.{next_call, none_done, orders}
use Rattle.outcomes.specs.Working.States.{Reached, left_with, NoneIsAlike, orders_to}
use Rattle.outcomes.specs.Working.Trails.{IsBegun, IsLonger}
use Rattle.outcomes.specs.Working.Searching.{Leads, order_at, AreApart, IsFound}
use Rattle.meaning.specs.Working.Undo.{undone}
use Rattle.outcomes.specs.Ends.{Left, end_in, seen, seen_cells}
use Rattle.outcomes.specs.declared.outcome.Cells.{Cells}
use Rattle.outcomes.specs.Working.Steps.{IsBeyond, IsEnd, counted_in, start_of}

-- the state that the calls leave
abbrev pub left_of : Walk → Left
left_of walk = left_with walk.heap walk.answers.items

-- the calls of the walk, made from the opening cells, lead to its state
pub record IsWalk (search : Search) (walk : Walk) : Type 0 where
  pub back : undone walk.overwritten.items walk.heap ≡ opening_heap search.program.now
  pub cells : HasCells search.program.now walk.heap
  pub typed : IsHeap search.program.now walk.heap
  pub leads : Leads search.program.now search.turns (none_done search.program.now) (start_of search) walk.order.items walk.done.items (left_of walk)

-- the thread has a call left
abbrev pub HasCallLeft : Typed → List ℕ → ℕ → Type 0
HasCallLeft program done thread = (call : Invocation) × (next_call program done thread ≡ Some call)

-- the number of calls of a thread
abbrev pub calls_of_thread : List Thread → ℕ → ℕ
calls_of_thread [] k = 0
calls_of_thread (t ∷ ts) zero = length t.calls.items
calls_of_thread (t ∷ ts) (suc k) = calls_of_thread ts k

-- the call was made, or goes beyond the turns
abbrev pub Advances : Search → Walk → Walk → ℕ → Bool → Type 0
Advances search old new thread settled =
    MatchBool settled
    (IsWalk search new × (length new.order.items ≡ suc (length old.order.items)))
    (IsBeyond search.program.now search.turns (start_of search) new.order.items thread)

-- all calls were made, or the next one of the thread goes beyond the turns
abbrev pub Walks : Search → Walk → Option ℕ → Type 0
Walks search walk None = IsWalk search walk × (length walk.order.items ≡ calls_together search.program.now.threads.items)
Walks search walk (Some thread) = IsBeyond search.program.now search.turns (start_of search) walk.order.items thread

-- the end was new, and is added with its order
pub record IsNewEnd (cells : Cells) (old new : Drawing) : Type 0 where
  pub none : NoneIsAlike old.walk.done.items (seen cells (left_of old.walk)) old.ends.states
  pub first : ℕ
  pub ends : new.ends.states ≡ old.ends.states ++ (record { done = old.walk.done.items; left = seen cells (left_of old.walk); orders = 1; first = first }) ∷ []
  pub longer : IsLonger old.trail new.trail
  pub within : first < length new.trail
  pub order : order_at new.trail first ≡ old.walk.order.items

-- the end is among the ends, with one more order
abbrev pub Notes : Cells → Drawing → Drawing → Type 0
Notes cells old new =
    (new.walk ≡ old.walk) × (new.ends.opening ≡ old.ends.opening) ×
    (IsFound old.ends.states new.ends.states old.trail new.trail old.walk.done.items (seen cells (left_of old.walk)) 1 ⊎ IsNewEnd cells old new)

-- a reported end, whose order was drawn
pub record IsDrawnEnd (search : Search) (trail drawn : List (List ℕ)) (s : Reached) : Type 0 where
  pub end : IsEnd search trail s
  pub was_drawn : Contains drawn (order_at trail s.first)

-- the sum over orders of a function of their ends, distinguished by what is asked for
abbrev pub sum_of_ends : Search → (Option Left → ℕ) → List (List ℕ) → ℕ
sum_of_ends search f drawn =
    sum_by (λ (order : List ℕ). f (option_map (seen search.asked.now.cells) (end_in search.program.now search.turns search.asked.now.answers order))) drawn

-- the ends of k orders
pub record AreEndsOf (search : Search) (drawing : Drawing) (k : ℕ) : Type 0 where
  pub back : undone drawing.walk.overwritten.items drawing.walk.heap ≡ opening_heap search.program.now
  pub opening : drawing.ends.opening ≡ seen_cells search.asked.now.cells (opening_heap search.program.now)
  pub begun : IsBegun drawing.trail
  pub count : orders_to drawing.ends.states ≡ k
  -- these orders
  pub drawn : List (List ℕ)
  pub are_orders : All (Contains (orders search.program.now)) drawn
  pub as_many : length drawn ≡ k
  pub ends : AreApart (IsDrawnEnd search drawing.trail drawn) drawing.ends.states
  pub counts : (f : Option Left → ℕ) → counted_in (λ (left : Left). f (Some left)) drawing.ends.states ≡ sum_of_ends search f drawn
