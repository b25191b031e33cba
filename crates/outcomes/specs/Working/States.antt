-- The states between the calls of a program, as data.
use Rattle.std.specs.Prelude.{◌≡◌, ℕ, ◌+◌, ◌<◌, List, [], length, slice_index_or, sum_by, Option}
use Rattle.std.specs.declared.hash.FoldHasher.{FoldHasher}
use Rattle.core_lang.specs.declared.value.Value.{Value}
use Rattle.core_lang.specs.declared.value.Outcome.{Outcome}
use Rattle.outcomes.specs.Ends.{Left}
use Rattle.outcomes.specs.declared.state.State.{State}
use Rattle.outcomes.specs.Working.Changes.{applied}
use Rattle.outcomes.specs.declared.layer.Entry.{Entry}

-- the state that calls leave, by its parts
abbrev pub left_with : List Value → List (Option Outcome) → Left
left_with cells answers = record { cells = cells; answers = answers }

-- a state: the number of each thread's calls that are done, what they leave, the number of orders that lead there, and
-- the number of one of them
pub record Reached : Type 0 where
  pub done : List ℕ
  pub left : Left
  pub orders : ℕ
  pub first : ℕ

-- a state as data, by the values of the cells before any call
abbrev pub reached_of : List Value → State → Reached
reached_of opening s = record {
  done = s.done.items;
  left = left_with (applied s.changes.items opening) s.answers.items;
  orders = s.orders;
  first = s.first;
}

abbrev pub entry_state : List Value → Entry → Reached
entry_state opening e = reached_of opening e.state

-- states, the values of the cells before any call, and the hasher of states
pub record Layered : Type 0 where
  pub opening : List Value
  pub states : List Reached
  pub start : FoldHasher

-- a state for a number without one
abbrev pub nowhere : Reached
nowhere = record { done = []; left = record { cells = []; answers = [] }; orders = 0; first = 0 }

-- the state at an index
abbrev pub at : List Reached → ℕ → Reached
at states number = slice_index_or states number nowhere

abbrev pub IsOne : List Reached → ℕ → Reached → Type 0
IsOne states number s = at states number ≡ s

-- the number of orders that lead to these states together
abbrev pub orders_to : List Reached → ℕ
orders_to states = sum_by (λ (s : Reached). s.orders) states

-- the state with the given number of further orders
abbrev pub with_more : Reached → ℕ → Reached
with_more s more = record s { orders = s.orders + more }

-- the state has these numbers of calls done, and these contents
abbrev pub IsAlike : List ℕ → Left → Reached → Type 0
IsAlike done left s = (s.done ≡ done) × (s.left ≡ left)

-- none of these states has these numbers and contents
abbrev pub NoneIsAlike : List ℕ → Left → List Reached → Type 0
NoneIsAlike done left states = (k : ℕ) → k < length states → ¬ (IsAlike done left (at states k))
