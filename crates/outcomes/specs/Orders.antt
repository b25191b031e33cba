-- The orders in which the calls of a program's scripts can be made one after another. An order is a list of threads:
-- each item stands for the next call of that thread's script.
use Rattle.std.specs.Prelude.{ℕ, ◌+◌, zero, suc, List, [], ◌∷◌, ◌++◌, length, map, replicate, slice_get, slice_set, take}
use Rattle.std.specs.Prelude.{slice_index, Option, Some, None, option_map, option_to_list}
use Rattle.core_lang.specs.declared.typed.Thread.{Thread}
use Rattle.core_lang.specs.declared.typed.Typed.{Typed}
use Rattle.core_lang.specs.Serial.{Invocation, invocation}
use Rattle.core_lang.specs.Typing.{lookup}
use Rattle.core_lang.specs.WellFormed.{calls_together}

-- the next call of a thread, after `done` calls of each thread; none, if its script has ended
abbrev pub next_call : Typed → List ℕ → ℕ → Option Invocation
next_call program done t =
    lookup (slice_get program.threads.items t) (λ (thread : Thread). option_map invocation (slice_get thread.calls.items (slice_index done t)))

-- the numbers of calls done, with one more of the thread
abbrev pub one_more : List ℕ → ℕ → List ℕ
one_more done t = slice_set done t (slice_index done t + 1)

-- no call is done
abbrev pub none_done : Typed → List ℕ
none_done program = replicate (length program.threads.items) 0

-- the number of a thread's call among the calls of all threads, thread 0's whole script first
abbrev pub call_number : Typed → ℕ → ℕ → ℕ
call_number program t k = calls_together (take t program.threads.items) + k

-- ---- all orders

-- the orders, each after the thread; no orders, if the thread has no next call
abbrev pub begun_with : Option Invocation → ℕ → List (List ℕ) → List (List ℕ)
begun_with None t orders = []
begun_with (Some call) t orders = map (λ (order : List ℕ). t ∷ order) orders

-- the orders that begin with one of the first `t` threads; `following` gives the orders after the first call
abbrev pub begun_by : Typed → (List ℕ → List (List ℕ)) → List ℕ → ℕ → List (List ℕ)
begun_by program following done zero = []
begun_by program following done (suc t) =
    begun_by program following done t ++ begun_with (next_call program done t) t (following (one_more done t))

-- the orders of n further calls
abbrev pub orders_of : Typed → ℕ → List ℕ → List (List ℕ)
orders_of program zero done = [] ∷ []
orders_of program (suc n) done = begun_by program (orders_of program n) done (length program.threads.items)

-- the orders of all calls
abbrev pub orders : Typed → List (List ℕ)
orders program = orders_of program (calls_together program.threads.items) (none_done program)

-- ---- their calls

-- the calls of an order
abbrev pub calls_of : Typed → List ℕ → List ℕ → List Invocation
calls_of program done [] = []
calls_of program done (t ∷ order) = option_to_list (next_call program done t) ++ calls_of program (one_more done t) order

-- the calls of an order that begins at the opening
abbrev pub calls_in : Typed → List ℕ → List Invocation
calls_in program order = calls_of program (none_done program) order
