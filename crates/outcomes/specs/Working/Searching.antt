-- The invariants of a search. Nobody has to believe this file.
--
-- How the search is proved: the search goes by layers, each of which has the states that a number of calls lead to,
-- each once. That a state not found isn't there is the invariant of `Layer` (`specs/Working/Tables`). A state has the
-- cells whose values differ from the opening values, in order (`specs/Working/Changes`), and the states of a layer are
-- compared by this list. The list is a function of the cells (`changes_of`), and the cells are found from it
-- (`applied`). One heap goes from state to state: what was overwritten is undone, and the changes of the next state are
-- made (`Visits`). The changes of a call are looked for only in the cells that it or the way to its state wrote. A
-- `Trail` lists the orders that lead to states, each an earlier one with one more thread. One equation carries the
-- search (`total`). For any weight of the states to which orders lead, the sum over all further orders from each state
-- of a layer, as often as orders lead to it, is the sum over all orders from the opening. One more call keeps it
-- (`proofs/Sums`). At the end no call is left, and the number of orders whose end passes a test is the reported one.
--
-- The states of the last layer are joined if they don't differ in what is asked for, which keeps each such sum over the
-- parts that are asked for (`proofs/SeenEnds`). That every end is reported follows by two tests: whether the turns
-- don't settle all calls, and whether the end is the given one (`proofs/Whole`). `proofs/Going` has the case of more
-- orders than the limit, and `proofs/Full` shows that different last states have different cells. The next thread of a
-- drawn order is drawn by number among all calls left (`proofs/Drawn`). No clause says that all are equally likely.
use Rattle.std.specs.Prelude.{◌≡◌, ℕ, ◌*◌, ◌<◌, List, [], ◌∷◌, ◌++◌, length, slice_index_or, slice_set, sum_by}
use Rattle.std.specs.Prelude.{Option, Some}
use Rattle.core_lang.specs.declared.typed.Typed.{Typed}
use Rattle.core_lang.specs.Serial.{Invocation, run_call}
use Rattle.core_lang.specs.Whole.{Finished, Over}
use Rattle.core_lang.specs.Typing.{IsHeap, HasCells}
use Rattle.outcomes.specs.Orders.{next_call, one_more, none_done, orders_of}
use Rattle.outcomes.specs.Ends.{Left, Told, answered, end_from, done_after}
use Rattle.outcomes.specs.Working.States.{Reached, IsAlike, NoneIsAlike, at, with_more}
use Rattle.outcomes.specs.Working.Trails.{longer}

-- the state after a call of a thread, by how the call ends
abbrev pub left_after : Typed → List ℕ → ℕ → Finished → Left → Left
left_after program done t finished left =
    record { cells = finished.heap; answers = answered program done t finished.outcome left.answers }

-- the calls of these threads, in this order, lead from one state to another
abbrev pub Leads : Typed → ℕ → List ℕ → Left → List ℕ → List ℕ → Left → Type 0
Leads program n done left [] done' left' = (done ≡ done') × (left ≡ left')
Leads program n done left (t ∷ order) done' left' =
    (call : Invocation) × (finished : Finished) × (next_call program done t ≡ Some call) × (run_call program n call left.cells ≡ Over finished) ×
    Leads program n (one_more done t) (left_after program done t finished left) order done' left'

-- the order of this number
abbrev pub order_at : List (List ℕ) → ℕ → List ℕ
order_at trail number = slice_index_or trail number []

-- calls lead to the state from the start, in the order that the state names
pub record IsGood (program : Typed) (n depth : ℕ) (start : Left) (trail : List (List ℕ)) (s : Reached) : Type 0 where
  pub threads : length s.done ≡ length program.threads.items
  pub cells : HasCells program s.left.cells
  pub typed : IsHeap program s.left.cells
  pub first : s.first < length trail
  pub long : length (order_at trail s.first) ≡ depth
  pub leads : Leads program n (none_done program) start (order_at trail s.first) s.done s.left

-- each of these states has the property `Is`, and no two are equal
pub record AreApart (Is : Reached → Type 0) (states : List Reached) : Type 0 where
  pub each : (k : ℕ) → k < length states → Is (at states k)
  pub apart : (j k : ℕ) → j < k → k < length states → ¬ (IsAlike (at states k).done (at states k).left (at states j))

abbrev pub AreGood : Typed → ℕ → ℕ → Left → List (List ℕ) → List Reached → Type 0
AreGood program n depth start trail states = AreApart (IsGood program n depth start trail) states

-- ---- sums over orders

-- the summand of an order, by the state to which its calls lead: the number of each thread's calls that are done, and
-- what they leave, if the turns settle them
abbrev pub Summand : Type 0
Summand = List ℕ → Option Left → ℕ

-- the sum over these orders of calls from a state
abbrev pub sum_over : Typed → ℕ → Summand → List ℕ → Left → List (List ℕ) → ℕ
sum_over program n f done heap orders = sum_by (λ (order : List ℕ). f (done_after done order) (end_from program n done heap order)) orders

-- the sum over the orders of `left` further calls from a state
abbrev pub weight : Typed → ℕ → Summand → ℕ → List ℕ → Left → ℕ
weight program n f left done heap = sum_over program n f done heap (orders_of program left done)

-- the sum over all orders of `left` further calls from these states, each as often as orders lead to its state
abbrev pub total : Typed → ℕ → Summand → ℕ → List Reached → ℕ
total program n f left states = sum_by (λ (s : Reached). s.orders * weight program n f left s.done s.left) states

-- ---- one more call

-- a call leads to a state that is in the list, or to a new one
pub record IsFound (old new : List Reached) (trail trail' : List (List ℕ)) (done : List ℕ) (left : Left) (more : ℕ) : Type 0 where
  pub number : ℕ
  pub within : number < length old
  pub alike : IsAlike done left (at old number)
  pub states : new ≡ slice_set old number (with_more (at old number) more)
  pub trail_is : trail' ≡ trail

pub record IsAdded (old new : List Reached) (trail trail' : List (List ℕ)) (done : List ℕ) (left : Left) (more from thread : ℕ) : Type 0 where
  pub none : NoneIsAlike done left old
  pub states : new ≡ old ++ (record { done = done; left = left; orders = more; first = length trail }) ∷ []
  pub trail_is : trail' ≡ trail ++ longer trail from thread ∷ []

-- ---- reported ends

-- a state as a reported end, with its order
abbrev pub as_told : List (List ℕ) → Reached → Told
as_told trail s = record { left = s.left; count = s.orders; order = order_at trail s.first }
