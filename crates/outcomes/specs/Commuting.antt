-- Calls that commute: they can be made in either order.
use Rattle.std.specs.Prelude.{◌≡◌, ◌≢◌, ℕ, List, length, slice_get, slice_index, Option, Some, option_map}
use Rattle.core_lang.specs.declared.value.Value.{Value}
use Rattle.core_lang.specs.declared.typed.Thread.{Thread}
use Rattle.core_lang.specs.declared.typed.Typed.{Typed}
use Rattle.core_lang.specs.Whole.{Finished, Over}
use Rattle.core_lang.specs.Serial.{Invocation, invocation, end_of, run_call}
use Rattle.core_lang.specs.Typing.{lookup}

-- the call of a thread's script by its number
abbrev pub call_at : Typed → ℕ → ℕ → Option Invocation
call_at program t k = lookup (slice_get program.threads.items t) (λ (thread : Thread). option_map invocation (slice_get thread.calls.items k))

-- b and then a, in this order, are over; each ends as it did in the other order, and the heap is the same
pub record Swapped (program : Typed) (n : ℕ) (a b : Invocation) (heap : List Value) (first second : Finished) : Type 0 where
  pub sooner : Finished
  pub later : Finished
  pub sooner_over : run_call program n b heap ≡ Over sooner
  pub later_over : run_call program n a sooner.heap ≡ Over later
  pub sooner_ends : end_of sooner ≡ end_of second
  pub later_ends : end_of later ≡ end_of first
  pub heap_is : later.heap ≡ second.heap

-- two calls commute: if n turns settle a and then b, they settle b and then a, with the same ends and the same heap
abbrev pub Commute : Typed → ℕ → Invocation → Invocation → Type 0
Commute program n a b = (heap : List Value) (first second : Finished) →
    run_call program n a heap ≡ Over first → run_call program n b first.heap ≡ Over second → Swapped program n a b heap first second

-- each call of a thread commutes with each call of a thread of another group
pub record AreIndependent (program : Typed) (groups : List ℕ) : Type 0 where
  pub threads : length groups ≡ length program.threads.items
  pub commute : (n t u j k : ℕ) (a b : Invocation) → slice_index groups t ≢ slice_index groups u →
      call_at program t j ≡ Some a → call_at program u k ≡ Some b → Commute program n a b
