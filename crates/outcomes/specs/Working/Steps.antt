-- The effects of the functions of a search. Nobody has to believe this file.
use Rattle.std.specs.Prelude.{◌≡◌, ℕ, ◌+◌, ◌*◌, ◌^◌, ◌<◌, ◌≤◌, suc, List, length, slice_index, ◌⊎◌, Option, Some}
use Rattle.std.specs.Prelude.{None, [], ◌∷◌, ◌++◌, slice_set, map, sum_by}
use Rattle.core_lang.specs.declared.value.Value.{Value}
use Rattle.core_lang.specs.declared.value.Outcome.{Outcome}
use Rattle.core_lang.specs.declared.typed.Call.{Call}
use Rattle.core_lang.specs.declared.typed.Typed.{Typed}
use Rattle.core_lang.specs.Serial.{Invocation, invocation, opening_heap, run_call}
use Rattle.core_lang.specs.Whole.{Finished, Over, Beyond_turns}
use Rattle.core_lang.specs.Expansion.{IsExpansion}
use Rattle.core_lang.specs.Typing.{IsHeap, HasCells}
use Rattle.core_lang.specs.WellFormed.{CanCall, IsChecked, calls_together}
use Rattle.outcomes.specs.declared.search.Search.{Search}
use Rattle.outcomes.specs.declared.search.EarlyEnd.{EarlyEnd}
use Rattle.outcomes.specs.declared.search.EarlyEnd.TheVariants.{TooMany, Beyond}
use Rattle.meaning.specs.declared.run.End.{End}
use Rattle.meaning.specs.Working.Undo.{undone}
use Rattle.outcomes.specs.declared.search.Work.{Work}
use Rattle.outcomes.specs.declared.search.After.{After}
use Rattle.outcomes.specs.declared.state.State.{State}
use Rattle.outcomes.specs.declared.outcome.Found.{Found}
use Rattle.outcomes.specs.Orders.{next_call, one_more, none_done, orders, orders_of, begun_with, begun_by}
use Rattle.outcomes.specs.Ends.{Left, Told, opening_left, seen}
use Rattle.outcomes.specs.Ends.{Finds}
use Rattle.outcomes.specs.Working.Changes.{applied}
use Rattle.outcomes.specs.Working.States.{Layered, Reached, left_with, at, reached_of, with_more, IsAlike, NoneIsAlike, orders_to}
use Rattle.outcomes.specs.Working.Trails.{IsLonger}
use Rattle.outcomes.specs.Working.Searching.{Leads, order_at, IsGood, AreGood, sum_over, weight, total, IsFound, IsAdded}
use Rattle.outcomes.specs.Working.Searching.{Summand, AreApart, as_told}

-- the program was accepted, and the prepared program is the same
pub record CanSearch (search : Search) : Type 0 where
  pub checked : IsChecked search.program.now
  pub same : search.prepared.now.program.now ≡ search.program.now
  pub expansion : IsExpansion search.program.now search.prepared.now.written.now

-- the call is over: it ended with this outcome, and left this heap
pub record IsOver (program : Typed) (n : ℕ) (call : Invocation) (cells heap : List Value) (outcome : Outcome) : Type 0 where
  pub finished : Finished
  pub over : run_call program n call cells ≡ Over finished
  pub heap_is : heap ≡ finished.heap
  pub outcome_is : outcome ≡ finished.outcome
  pub there : HasCells program heap
  pub typed : IsHeap program heap

-- the call is over, or goes beyond the turns
abbrev pub Leaves : Typed → ℕ → Invocation → List Value → List Value → Option End → Type 0
Leaves program n call cells heap (Some end) =
    IsOver program n call cells heap end.outcome × (undone end.overwritten.items heap ≡ cells)
Leaves program n call cells heap None = run_call program n call cells ≡ Beyond_turns

-- the heap has the cells of the state
pub record Visits (old new : Work) (state : State) : Type 0 where
  pub heap : new.heap ≡ applied state.changes.items old.next.opening
  pub back : undone new.overwritten.items new.heap ≡ old.next.opening
  pub next : new.next ≡ old.next
  pub trail : new.trail ≡ old.trail
  pub depth : new.depth ≡ old.depth

-- the state that a call leaves, by the values of the cells before any call
abbrev pub left_by : List Value → After → Left
left_by opening after = left_with (applied after.changes.items opening) after.answers.items

-- the state after a call of a thread is among the states
pub record Puts (old new : Work) (from : State) (thread : ℕ) (left : Left) : Type 0 where
  pub heap : new.heap ≡ old.heap
  pub overwritten : new.overwritten ≡ old.overwritten
  pub depth : new.depth ≡ old.depth
  pub opening : new.next.opening ≡ old.next.opening
  pub there :
      IsFound old.next.states new.next.states old.trail new.trail (one_more from.done.items thread) left from.orders
      ⊎ IsAdded old.next.states new.next.states old.trail new.trail (one_more from.done.items thread) left from.orders from.first thread

-- the state before any call
abbrev pub start_of : Search → Left
start_of search = opening_left search.program.now search.asked.now.answers

-- the call is the next one of the thread, and can be made
pub record IsNext (program : Typed) (done : List ℕ) (thread : ℕ) (call : Call) : Type 0 where
  pub next : next_call program done thread ≡ Some (invocation call)
  pub can : CanCall program call.section call.arguments.items
  pub few : slice_index done thread + 1 < 2 ^ 64

-- a state of the search, as data
abbrev pub state_in : Search → State → Reached
state_in search state = reached_of (opening_heap search.program.now) state

-- undoing what was overwritten leads back to the opening cells
pub record IsBack (search : Search) (work : Work) : Type 0 where
  pub opening : work.next.opening ≡ opening_heap search.program.now
  pub back : undone work.overwritten.items work.heap ≡ opening_heap search.program.now

-- a layer is being made: its states are reached by one more call than those of the layer before, and no more orders
-- lead to them than the limit
pub record IsAtWork (search : Search) (work : Work) : Type 0 where
  pub back : IsBack search work
  pub few : orders_to work.next.states ≤ search.most
  pub states : AreGood search.program.now search.turns (suc work.depth) (start_of search) work.trail work.next.states

-- a state of the layer before
abbrev pub IsReached : Search → Work → State → Type 0
IsReached search work from = IsGood search.program.now search.turns work.depth (start_of search) work.trail (state_in search from)

-- all states of the layer before
abbrev pub AreReached : Search → Work → List Reached → Type 0
AreReached search work states = AreGood search.program.now search.turns work.depth (start_of search) work.trail states

-- the growth of sums over orders
abbrev pub Growth : Type 0
Growth = Summand → ℕ → ℕ

-- the growth by the orders that begin with the next call of a thread
abbrev pub made_by : Search → State → ℕ → Growth
made_by search from t f left =
    from.orders * sum_over search.program.now search.turns f from.done.items (state_in search from).left
    (begun_with (next_call search.program.now from.done.items t) t (orders_of search.program.now left (one_more from.done.items t)))

-- the growth by the threads below the given number
abbrev pub made_below : Search → State → ℕ → Growth
made_below search from count f left =
    from.orders * sum_over search.program.now search.turns f from.done.items (state_in search from).left
    (begun_by search.program.now (orders_of search.program.now left) from.done.items count)

-- the growth by all threads
abbrev pub made_from : Search → State → Growth
made_from search from f left = made_below search from (length search.program.now.threads.items) f left

-- the growth from each of these states
abbrev pub made_from_all : Search → List Reached → Growth
made_from_all search states f left = total search.program.now search.turns f (suc left) states

-- the work went on: sums over the orders from its states grew by `growth`
pub record GoesOn (search : Search) (old new : Work) (growth : Growth) : Type 0 where
  pub depth : new.depth ≡ old.depth
  pub work : IsAtWork search new
  pub longer : IsLonger old.trail new.trail
  -- each new state has an order of its own
  pub grown : length new.trail + length old.next.states ≡ length old.trail + length new.next.states
  pub grows : (f : Summand) (left : ℕ) →
      total search.program.now search.turns f left new.next.states ≡ total search.program.now search.turns f left old.next.states + growth f left

-- after the calls of this order, the turns don't settle the next call of the thread
pub record IsBeyond (program : Typed) (n : ℕ) (start : Left) (order : List ℕ) (thread : ℕ) : Type 0 where
  pub done : List ℕ
  pub left : Left
  pub call : Invocation
  pub leads : Leads program n (none_done program) start order done left
  pub next : next_call program done thread ≡ Some call
  pub beyond : run_call program n call left.cells ≡ Beyond_turns

-- the summand that counts orders
abbrev pub one : Summand
one done end = 1

-- each state to which this many calls lead weighs at least one
abbrev pub WeighsAll : Search → ℕ → Summand → ℕ → Type 0
WeighsAll search depth f left =
    (trail : List (List ℕ)) (s : Reached) → IsGood search.program.now search.turns depth (start_of search) trail s →
    1 ≤ weight search.program.now search.turns f left s.done s.left

-- each sum in which every state of the layer weighs at least one is more than the limit: such sums count orders
abbrev pub HasTooMany : Search → Work → Growth → Type 0
HasTooMany search old growth =
    (f : Summand) (left : ℕ) → WeighsAll search (suc old.depth) f left →
    search.most < total search.program.now search.turns f left old.next.states + growth f left

abbrev pub IsStop : Search → Work → Work → Growth → EarlyEnd → Type 0
IsStop search old new growth TooMany = HasTooMany search old growth
IsStop search old new growth (Beyond first thread) =
    (first < length new.trail) × IsBeyond search.program.now search.turns (start_of search) (order_at new.trail first) thread

-- the work went on, or stopped
abbrev pub Steps : Search → Work → Work → Growth → Option EarlyEnd → Type 0
Steps search old new growth None = GoesOn search old new growth
Steps search old new growth (Some stop) = IsStop search old new growth stop

-- the result over all orders; none, if the program has more orders than the limit
abbrev pub FindsOrHasMore : Search → Option Found → Type 0
FindsOrHasMore search None = search.most < length (orders search.program.now)
FindsOrHasMore search (Some found) = Finds search.program.now search.turns search.most search.asked.now found

-- the state in which no call is done
abbrev pub opening_state : Search → Reached
opening_state search = record { done = none_done search.program.now; left = start_of search; orders = 1; first = 0 }

-- each state names an order of the trail
abbrev pub FirstsAre : List (List ℕ) → List Reached → Type 0
FirstsAre trail states = (k : ℕ) → k < length states → (at states k).first < length trail

-- ---- ends, distinguished by what is asked for

-- a reported end, of a state in which all calls are done
pub record IsEnd (search : Search) (trail : List (List ℕ)) (s : Reached) : Type 0 where
  pub left : Left
  pub good : IsGood search.program.now search.turns (calls_together search.program.now.threads.items) (start_of search) trail (record s { left = left })
  pub seen_is : s.left ≡ seen search.asked.now.cells left

abbrev pub AreEnds : Search → List (List ℕ) → List Reached → Type 0
AreEnds search trail ends = AreApart (IsEnd search trail) ends

-- the end is new, and is added with the order of its state
pub record IsNew (old new : List Reached) (s : Reached) (left : Left) : Type 0 where
  pub none : NoneIsAlike s.done left old
  pub ends : new ≡ old ++ (record s { left = left }) ∷ []

pub record IsKnown (old new : List Reached) (s : Reached) (left : Left) : Type 0 where
  pub number : ℕ
  pub within : number < length old
  pub alike : IsAlike s.done left (at old number)
  pub ends : new ≡ slice_set old number (with_more (at old number) s.orders)

pub record Tells (search : Search) (old new : Layered) (state : State) : Type 0 where
  pub opening : new.opening ≡ old.opening
  pub there :
      IsKnown old.states new.states (state_in search state) (seen search.asked.now.cells (state_in search state).left)
      ⊎ IsNew old.states new.states (state_in search state) (seen search.asked.now.cells (state_in search state).left)

-- the sum of a function of the ends, each as often as orders lead to it
abbrev pub counted_in : (Left → ℕ) → List Reached → ℕ
counted_in w states = sum_by (λ (s : Reached). s.orders * w s.left) states

-- the ends of these states, distinguished by what is asked for
pub record AreEndsOfStates (search : Search) (trail : List (List ℕ)) (states ends : List Reached) : Type 0 where
  pub are : AreEnds search trail ends
  pub counts : (w : Left → ℕ) → counted_in w ends ≡ counted_in (λ (left : Left). w (seen search.asked.now.cells left)) states

-- the ends of these states, as they are reported
abbrev pub AreToldOfStates : Search → List (List ℕ) → List Reached → List Told → Type 0
AreToldOfStates search trail states told =
    (ends : List Reached) × AreEndsOfStates search trail states ends × (told ≡ map (as_told trail) ends)
