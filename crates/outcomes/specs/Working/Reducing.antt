-- The effects of the functions of a search over some orders. Nobody has to believe this file.
use Rattle.std.specs.Prelude.{◌≡◌, ℕ, ◌+◌, ◌*◌, ◌<◌, zero, suc, nat_eq, if◌then◌else◌, List, [], ◌∷◌, ◌++◌, length, slice_index}
use Rattle.std.specs.Prelude.{sum_by, Option, Some, None}
use Rattle.core_lang.specs.declared.typed.Typed.{Typed}
use Rattle.core_lang.specs.Serial.{Invocation}
use Rattle.outcomes.specs.declared.search.Search.{Search}
use Rattle.outcomes.specs.declared.outcome.Found.{Found}
use Rattle.core_lang.specs.WellFormed.{calls_together}
use Rattle.outcomes.specs.Orders.{next_call, one_more, orders, orders_of, begun_with, none_done}
use Rattle.outcomes.specs.Ends.{Finds, Left}
use Rattle.outcomes.specs.Working.States.{Reached, at}
use Rattle.outcomes.specs.Working.Searching.{Leads, sum_over, Summand}
use Rattle.outcomes.specs.Working.Steps.{Growth, start_of}
use Rattle.std.specs.List.{Contains}

-- the earlier thread, if there is one; otherwise this thread, if it has a call
abbrev pub or_this : Option ℕ → Option Invocation → ℕ → Option ℕ
or_this (Some u) call t = Some u
or_this None (Some call) t = Some t
or_this None None t = None

-- the first thread below the given number that has a call left
abbrev pub first_ready : Typed → List ℕ → ℕ → Option ℕ
first_ready program done zero = None
first_ready program done (suc t) = or_this (first_ready program done t) (next_call program done t) t

-- the growth by the orders from a state that begin with the next call of a thread
abbrev pub by_thread : Search → Reached → ℕ → Growth
by_thread search s t f left =
    s.orders * sum_over search.program.now search.turns f s.done s.left
    (begun_with (next_call search.program.now s.done t) t (orders_of search.program.now left (one_more s.done t)))

-- the growth by the threads of a group below the given number
abbrev pub by_group : Search → List ℕ → ℕ → Reached → ℕ → Growth
by_group search groups group s zero f left = 0
by_group search groups group s (suc t) f left =
    by_group search groups group s t f left + (if nat_eq (slice_index groups t) group then by_thread search s t f left else 0)

-- the growth by the threads of the group of this thread
abbrev pub by_first : Search → List ℕ → Reached → Option ℕ → Growth
by_first search groups s None f left = 0
by_first search groups s (Some t) f left =
    by_group search groups (slice_index groups t) s (length search.program.now.threads.items) f left

-- the growth by the threads of the first group that has a call left
abbrev pub reduced_from : Search → List ℕ → Reached → Growth
reduced_from search groups s f left =
    by_first search groups s (first_ready search.program.now s.done (length search.program.now.threads.items)) f left

-- the growth from each of these states
abbrev pub reduced_from_all : Search → List ℕ → List Reached → Growth
reduced_from_all search groups states f left = sum_by (λ (s : Reached). reduced_from search groups s f left) states

-- ---- the orders that the groups leave

-- the orders that begin with one of the first `t` threads, if it is of the group; `following` gives the orders after
-- the first call
abbrev pub begun_in : Typed → List ℕ → ℕ → (List ℕ → List (List ℕ)) → List ℕ → ℕ → List (List ℕ)
begun_in program groups group following done zero = []
begun_in program groups group following done (suc t) =
    begun_in program groups group following done t
    ++ (if nat_eq (slice_index groups t) group then begun_with (next_call program done t) t (following (one_more done t)) else [])

-- the orders that begin with a thread of the group of this thread
abbrev pub begun_first : Typed → List ℕ → (List ℕ → List (List ℕ)) → List ℕ → Option ℕ → List (List ℕ)
begun_first program groups following done None = []
begun_first program groups following done (Some t) =
    begun_in program groups (slice_index groups t) following done (length program.threads.items)

-- the orders of n further calls, each of which is of the first group that has a call left
abbrev pub orders_left : Typed → List ℕ → ℕ → List ℕ → List (List ℕ)
orders_left program groups zero done = [] ∷ []
orders_left program groups (suc n) done =
    begun_first program groups (orders_left program groups n) done (first_ready program done (length program.threads.items))

-- the orders of all calls, each of which is of the first group that has a call left
abbrev pub grouped_orders : Typed → List ℕ → List (List ℕ)
grouped_orders program groups =
    orders_left program groups (calls_together program.threads.items) (none_done program)

-- the summand that counts the orders which the groups leave
abbrev pub left_over : Typed → List ℕ → ℕ → Summand
left_over program groups n done end = length (orders_left program groups n done)

-- the result; none, if the orders that the groups leave are more than the limit
abbrev pub FindsOrLeavesMore : Search → List ℕ → Option Found → Type 0
FindsOrLeavesMore search groups None = search.most < length (grouped_orders search.program.now groups)
FindsOrLeavesMore search groups (Some found) = Finds search.program.now search.turns search.most search.asked.now found

-- all threads are in one group
abbrev pub IsOneGroup : List ℕ → Type 0
IsOneGroup groups = (t u : ℕ) → t < length groups → u < length groups → slice_index groups t ≡ slice_index groups u

-- ---- orders through some states

-- the order is covered by a state of the list: it leads where some order of the remaining calls leads from that state
pub record IsCovered (search : Search) (left : ℕ) (states : List Reached) (order : List ℕ) : Type 0 where
  pub number : ℕ
  pub within : number < length states
  pub some : 0 < (at states number).orders
  pub rest : List ℕ
  pub is_rest : Contains (orders_of search.program.now left (at states number).done) rest
  pub leads : (done' : List ℕ) (left' : Left) →
      Leads search.program.now search.turns (at states number).done (at states number).left rest done' left' →
      Leads search.program.now search.turns (none_done search.program.now) (start_of search) order done' left'

-- each order of all calls is covered
abbrev pub Covers : Search → ℕ → List Reached → Type 0
Covers search left states = (order : List ℕ) → Contains (orders search.program.now) order → IsCovered search left states order
