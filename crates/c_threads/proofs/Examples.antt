-- A worked plan, written by hand, and what the definitions compute for its runs in C. No proof depends on these: they
-- show the definitions at work.
use Rattle.std.specs.Prelude.{◌≡◌, ℕ, ◌<◌, ◌^◌, length, List, [], ◌∷◌, ◌++◌, replicate, map, Option, Some, None, pos, String}
use Rattle.std.proofs.Common.{refl, Vec, Box, Global, arith}
use denote.RawPtr.{null_ptr}
use Rattle.core_lang.specs.declared.value.Value.{Value}
use Rattle.core_lang.specs.declared.value.Value.TheVariants.{Int}
use Rattle.core_lang.specs.declared.value.ValueType.TheVariants.{Integer}
use Rattle.core_lang.specs.declared.value.Outcome.TheVariants as outcome
use Rattle.core_lang.specs.declared.tree.Operator.TheVariants.{Add}
use Rattle.core_lang.specs.declared.tree.Expr.{Number, Global as GlobalExpr, Chain', end_of-Operation, more_of-Operation}
use Rattle.core_lang.specs.declared.tree.Action.{SetGlobal}
use Rattle.core_lang.specs.declared.tree.Section.{Section}
use Rattle.core_lang.specs.declared.typed.LockClass.TheVariants as class
use Rattle.core_lang.specs.declared.typed.CellOwner.TheVariants as owner
use Rattle.core_lang.specs.declared.typed.Thread.{Thread}
use Rattle.core_lang.specs.declared.typed.Typed.{Typed}
use Rattle.core_lang.specs.Serial.{Ended}
use Rattle.locks.specs.declared.lock.Lock.{Lock}
use Rattle.lowering.specs.Plans.{Plan}
use Rattle.c_threads.specs.Threads.{Entry, CallInC, ThreadInC, WorldInC, Step, Idle, Waits, Goes, Breaks, State, At, Broken, locks, unlocks, step, final_in_c}
use Rattle.c_threads.specs.Claims.{next_accesses}

-- the given number of steps of a thread
abbrev times : ℕ → ℕ → List ℕ
times t n = replicate n t

abbrev the_lock : Lock
the_lock = record { class = 0; object = 0 }

-- the cells of a state, if it has any
abbrev cells_in : State → List Value
cells_in (At w) = w.cells
cells_in Broken = []

abbrev history_in : State → List Entry
history_in (At w) = w.history
history_in Broken = []

abbrev locked_in : State → List (List Lock)
locked_in (At w) = map (λ (x : ThreadInC). x.locked) w.threads
locked_in Broken = []

abbrev answers_in : State → List (List Ended)
answers_in (At w) = map (λ (x : ThreadInC). x.answers) w.threads
answers_in Broken = []

-- the kinds of steps
data Kind : Type 0 where
  idle : Kind
  waits : Lock → Kind
  goes : Kind
  breaks : Kind

abbrev kind : Step → Kind
kind Idle = idle
kind (Waits lock) = waits lock
kind (Goes next) = goes
kind Breaks = breaks

abbrev kind_in : Plan → ℕ → State → Kind
kind_in plan t (At w) = kind (step plan w t)
kind_in plan t Broken = breaks

abbrev accesses_of : WorldInC → Plan → Option CallInC → List ℕ
accesses_of w plan None = []
accesses_of w plan (Some c) = next_accesses w plan c c.progress

abbrev accesses_in : Plan → State → List (List ℕ)
accesses_in plan (At w) = map (λ (x : ThreadInC). accesses_of w plan x.active) w.threads
accesses_in plan Broken = []

module _ (alloc : Global) (name : String Global) where
  abbrev vec : {X : Type 0} (xs : List X) → length xs < 2 ^ 63 → Vec X Global
  vec xs small =
      record { ptr = null_ptr; len = length xs; cap = length xs; alloc = alloc; items = xs; ok = (refl, omega arith); small = small }

  abbrev none : {X : Type 0} → Vec X Global
  none = vec [] (omega arith)

  abbrev boxed : Box (Unit {0}) Global
  boxed = record { ptr = null_ptr; alloc = alloc; value = tt }

  -- ---- lock G; global int n protected_by(G); atomic inc() { n = n + 1; } thread t { inc(); } thread u { inc(); }

  abbrev inc : Section
  inc = record {
    name = name;
    parameters = 0;
    locals = none;
    result_type = None;
    result = None;
    body = vec (record {
      start = 0;
      action = SetGlobal 0 (Chain' boxed (GlobalExpr 0 0) (vec (tt ∷ []) (omega arith)) (more_of-Operation Add (Number (pos 1)) end_of-Operation));
    } ∷ []) (omega arith);
    listed = none;
  }

  abbrev calling : Thread
  calling = record { name = name; calls = vec (record { section = 0; arguments = none } ∷ []) (omega arith) }

  abbrev program : Typed
  program = record {
    classes = vec (class.Global name ∷ []) (omega arith);
    structs = none;
    globals = vec (record { name = name; cell = 0; class = 0 } ∷ []) (omega arith);
    shape = record { arrays = none; pools = none; objects = none; finals = none; helpers = none };
    cells = vec (record { owner = owner.Global 0; value_type = Integer; opening = Int (pos 0) } ∷ []) (omega arith);
    sections = vec (inc ∷ []) (omega arith);
    threads = vec (calling ∷ calling ∷ []) (omega arith);
  }

  abbrev lost_update : Plan
  lost_update = record {
    accepted = program;
    program = program;
    ranks = 0 ∷ [];
    lists = ((0 ∷ []) ∷ []) ∷ [];
    layout = record { opening = Int (pos 0) ∷ []; cell_locks = the_lock ∷ []; locks = the_lock ∷ [] };
  }

  abbrev after : List ℕ → State
  after steps = final_in_c lost_update steps

  abbrev entry : ℕ → ℕ → Entry
  entry t begun = record {
    thread = t;
    step = 0;
    call = record { section = 0; arguments = [] };
    begun = begun;
    answer = record { outcome = outcome.Ends; prints = [] };
  }

  -- the begin, the acquire, its call of AL_LOCK, five groups, the end, the return
  in_turn : cells_in (after (times 0 10 ++ times 1 10)) ≡ Int (pos 2) ∷ []
  in_turn = refl

  in_turn_history : history_in (after (times 0 10 ++ times 1 10)) ≡ entry 0 0 ∷ entry 1 1 ∷ []
  in_turn_history = refl

  all_given_back : locked_in (after (times 0 10 ++ times 1 10)) ≡ [] ∷ [] ∷ []
  all_given_back = refl

  all_answered : answers_in (after (times 0 10)) ≡ (record { outcome = outcome.Ends; prints = [] } ∷ []) ∷ [] ∷ []
  all_answered = refl

  no_more_calls : kind_in lost_update 0 (after (times 0 10)) ≡ idle
  no_more_calls = refl

  -- no cell is accessed before the lock is acquired; then the load and the store reach the cell
  before_the_lock : accesses_in lost_update (after (times 0 2)) ≡ [] ∷ [] ∷ []
  before_the_lock = refl

  at_the_load : accesses_in lost_update (after (times 0 3)) ≡ (0 ∷ []) ∷ [] ∷ []
  at_the_load = refl

  at_the_number : accesses_in lost_update (after (times 0 4)) ≡ [] ∷ [] ∷ []
  at_the_number = refl

  at_the_store : accesses_in lost_update (after (times 0 6)) ≡ (0 ∷ []) ∷ [] ∷ []
  at_the_store = refl

  -- while thread 0 has the lock, thread 1 gets as far as its call of AL_LOCK
  waiting : kind_in lost_update 1 (after (times 0 3 ++ times 1 2)) ≡ waits the_lock
  waiting = refl

  still_waiting : kind_in lost_update 1 (after (times 0 3 ++ times 1 9 ++ times 0 5)) ≡ waits the_lock
  still_waiting = refl

  -- once the entry of thread 0 is made, the lock is released and thread 1 goes on, even if the call of thread 0 has not
  -- returned
  overtaken : cells_in (after (times 0 3 ++ times 1 2 ++ times 0 6 ++ times 1 8)) ≡ Int (pos 2) ∷ []
  overtaken = refl

  overtaken_history : history_in (after (times 0 3 ++ times 1 2 ++ times 0 6 ++ times 1 8)) ≡ entry 0 0 ∷ entry 1 0 ∷ []
  overtaken_history = refl

  not_returned : answers_in (after (times 0 3 ++ times 1 2 ++ times 0 6 ++ times 1 8))
      ≡ [] ∷ (record { outcome = outcome.Ends; prints = [] } ∷ []) ∷ []
  not_returned = refl

  -- ---- what is undefined

  -- a thread that locks a lock that it has locked, or unlocks one that it has not
  relocked : (w : WorldInC) (c : CallInC) → locks w 0 (record { answers = []; locked = the_lock ∷ []; active = Some c }) c the_lock [] ≡ Breaks
  relocked w c = refl

  not_locked : (w : WorldInC) (c : CallInC) → unlocks w 0 (record { answers = []; locked = []; active = Some c }) c outcome.Ends (the_lock ∷ []) ≡ Breaks
  not_locked w c = refl
