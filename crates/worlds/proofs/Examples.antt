-- Worked plans, written by hand, and what the definitions compute for their runs. No proof depends on these: they show
-- the definitions at work.
use Rattle.std.specs.Prelude.{◌≡◌, ℕ, false, ◌+◌, ◌<◌, ◌^◌, length, List, [], ◌∷◌, ◌++◌, replicate, map, Some, None}
use Rattle.std.specs.Prelude.{pos, String}
use Rattle.std.proofs.Common.{refl, Vec, Box, Global, arith}
use denote.RawPtr.{null_ptr}
use Rattle.core_lang.specs.declared.value.Value.{Value}
use Rattle.core_lang.specs.declared.value.Value.TheVariants.{Int, Ref}
use Rattle.core_lang.specs.declared.value.ValueType.{ValueType}
use Rattle.core_lang.specs.declared.value.ValueType.TheVariants.{Integer, Reference}
use Rattle.core_lang.specs.declared.value.Outcome.TheVariants as outcome
use Rattle.core_lang.specs.declared.tree.Comparison.TheVariants.{Equal}
use Rattle.core_lang.specs.declared.tree.Operator.{Operator}
use Rattle.core_lang.specs.declared.tree.Operator.TheVariants.{Add, Sub}
use Rattle.core_lang.specs.declared.tree.LocalKind.TheVariants.{Parameter}
use Rattle.core_lang.specs.declared.tree.Path.{Path}
use Rattle.core_lang.specs.declared.tree.FieldStep.{FieldStep}
use Rattle.core_lang.specs.declared.tree.FieldStep.TheVariants as step
use Rattle.core_lang.specs.declared.tree.Expr.{Expr, Number, Place, Global as GlobalExpr, Chain', end_of-Operation}
use Rattle.core_lang.specs.declared.tree.Expr.{more_of-Operation}
use Rattle.core_lang.specs.declared.tree.Condition.{Compare}
use Rattle.core_lang.specs.declared.tree.Action.{SetGlobal, SetField, While', end_of-Stmt}
use Rattle.core_lang.specs.declared.tree.Local.{Local}
use Rattle.core_lang.specs.declared.tree.Section.{Section}
use Rattle.core_lang.specs.declared.shape.Shape.{Shape}
use Rattle.core_lang.specs.declared.typed.Call.{Call}
use Rattle.core_lang.specs.declared.typed.Cell.{Cell}
use Rattle.core_lang.specs.declared.typed.GlobalVariable.{GlobalVariable}
use Rattle.core_lang.specs.declared.typed.LockClass.TheVariants as class
use Rattle.core_lang.specs.declared.typed.CellOwner.{CellOwner}
use Rattle.core_lang.specs.declared.typed.CellOwner.TheVariants as owner
use Rattle.core_lang.specs.declared.typed.Thread.{Thread}
use Rattle.core_lang.specs.declared.typed.Typed.{Typed}
use Rattle.core_lang.specs.Serial.{Ended as Ended_call}
use Rattle.locks.specs.declared.lock.Lock.{Lock}
use Rattle.history.specs.Commits.{Commit, answer_of}
use Rattle.lowering.specs.Plans.{Plan}
use Rattle.worlds.specs.declared.event.Event.{Event}
use Rattle.worlds.specs.declared.event.Event.TheVariants.{Began, Got, Waits, Moved, Ended}
use Rattle.worlds.specs.Worlds.{final, trace}

-- the given number of steps of a thread
abbrev times : ℕ → ℕ → List ℕ
times t n = replicate n t

abbrev pub the_lock : ℕ → ℕ → Lock
the_lock c o = record { class = c; object = o }

module _ (alloc : Global) (name : String Global) where
  -- ---- parts of programs

  abbrev pub vec : {X : Type 0} (xs : List X) → length xs < 2 ^ 63 → Vec X Global
  vec xs small =
      record { ptr = null_ptr; len = length xs; cap = length xs; alloc = alloc; items = xs; ok = (refl, omega arith); small = small }

  abbrev pub none : {X : Type 0} → Vec X Global
  none = vec [] (omega arith)

  -- the parts of a tree's `Vec` beside its items: the number of them
  abbrev pub one : Vec (Unit {0}) Global
  one = vec (tt ∷ []) (omega arith)

  abbrev pub boxed : Box (Unit {0}) Global
  boxed = record { ptr = null_ptr; alloc = alloc; value = tt }

  abbrev pub joined : Operator → Expr → Expr → Expr
  joined o a b = Chain' boxed a one (more_of-Operation o b end_of-Operation)

  abbrev a_path : ℕ → (fields : List FieldStep) → length fields < 2 ^ 63 → Path
  a_path local fields small = record { start = 0; local = local; fields = vec fields small; in_parentheses = false }

  abbrev at_local : ℕ → Expr
  at_local k = Place (a_path k [] (omega arith))

  abbrev parameter : ValueType → Local
  parameter t = record { name = name; kind = Parameter; value_type = t }

  abbrev pub int_global : ℕ → GlobalVariable
  int_global k = record { name = name; cell = k; class = k }

  abbrev pub int_cell : CellOwner → ℕ → Cell
  int_cell o n = record { owner = o; value_type = Integer; opening = Int (pos n) }

  abbrev pub no_shape : Shape
  no_shape = record { arrays = none; pools = none; objects = none; finals = none; helpers = none }

  abbrev pub a_call : ℕ → (arguments : List Value) → length arguments < 2 ^ 63 → Call
  a_call section arguments small = record { section = section; arguments = vec arguments small }

  -- a thread of one call
  abbrev pub calling : Call → Thread
  calling call = record { name = name; calls = vec (call ∷ []) (omega arith) }

  -- ---- the lost update: lock G; global int n protected_by(G); atomic inc() { n = n + 1; } thread t { inc(); } thread u { inc(); }

  abbrev pub inc : Section
  inc = record {
    name = name;
    parameters = 0;
    locals = none;
    result_type = None;
    listed = none;
    result = None;
    body = vec (record { start = 0; action = SetGlobal 0 (joined Add (GlobalExpr 0 0) (Number (pos 1))) } ∷ []) (omega arith);
  }

  abbrev pub inc_program : Typed
  inc_program = record {
    classes = vec (class.Global name ∷ []) (omega arith);
    structs = none;
    globals = vec (int_global 0 ∷ []) (omega arith);
    shape = no_shape;
    cells = vec (int_cell (owner.Global 0) 0 ∷ []) (omega arith);
    sections = vec (inc ∷ []) (omega arith);
    threads = vec (calling (a_call 0 [] (omega arith)) ∷ calling (a_call 0 [] (omega arith)) ∷ []) (omega arith);
  }

  abbrev pub lost_update : Plan
  lost_update = record {
    accepted = inc_program;
    program = inc_program;
    ranks = 0 ∷ [];
    lists = ((0 ∷ []) ∷ []) ∷ [];
    layout = record {
      opening = Int (pos 0) ∷ [];
      cell_locks = the_lock 0 0 ∷ [];
      locks = the_lock 0 0 ∷ [];
    };
  }

  -- a thread's increment, which found `n`, and began when the history had `begun` entries
  abbrev incremented : ℕ → ℕ → ℕ → Commit
  incremented t begun n = record {
    thread = t;
    step = 0;
    section = 0;
    arguments = [];
    begun = begun;
    reads = (0, Int (pos n)) ∷ [];
    writes = (0, Int (pos (n + 1))) ∷ [];
    outcome = outcome.Ends;
    prints = [];
  }

  -- the nine steps of a thread while nobody else holds the lock
  abbrev undisturbed : ℕ → List Event
  undisturbed position = Began ∷ Moved ∷ Got (the_lock 0 0) ∷ replicate 5 Moved ++ Ended position ∷ []

  -- thread 0 runs before thread 1
  in_turn : trace lost_update (times 0 9 ++ times 1 9) ≡ undisturbed 0 ++ undisturbed 1
  in_turn = refl

  in_turn_history : (final lost_update (times 0 9 ++ times 1 9)).history ≡ incremented 0 0 0 ∷ incremented 1 1 1 ∷ []
  in_turn_history = refl

  -- thread 1 runs before thread 0
  turned : trace lost_update (times 1 9 ++ times 0 9) ≡ undisturbed 0 ++ undisturbed 1
  turned = refl

  turned_history : (final lost_update (times 1 9 ++ times 0 9)).history ≡ incremented 1 0 0 ∷ incremented 0 1 1 ∷ []
  turned_history = refl

  turned_cells : (final lost_update (times 1 9 ++ times 0 9)).cells ≡ Some (Int (pos 2)) ∷ []
  turned_cells = refl

  -- both begin before either ends; thread 1 waits at its third step
  abbrev overlapping : List ℕ
  overlapping = times 0 3 ++ times 1 3 ++ times 0 6

  abbrev overlapping_events : List Event
  overlapping_events =
      Began ∷ Moved ∷ Got (the_lock 0 0) ∷ Began ∷ Moved ∷ Waits (the_lock 0 0) 0 ∷ replicate 5 Moved ++ Ended 0 ∷ []

  overlapped : trace lost_update (overlapping ++ times 1 7) ≡
      overlapping_events ++ Got (the_lock 0 0) ∷ replicate 5 Moved ++ Ended 1 ∷ []
  overlapped = refl

  overlapped_history : (final lost_update (overlapping ++ times 1 7)).history ≡ incremented 0 0 0 ∷ incremented 1 0 1 ∷ []
  overlapped_history = refl

  overlapped_cells : (final lost_update (overlapping ++ times 1 7)).cells ≡ Some (Int (pos 2)) ∷ []
  overlapped_cells = refl

  -- one step fewer: thread 1 has the cell, and its section is not in the history
  cut_short : (final lost_update (overlapping ++ times 1 6)).cells ≡ None ∷ []
  cut_short = refl

  cut_short_history : (final lost_update (overlapping ++ times 1 6)).history ≡ incremented 0 0 0 ∷ []
  cut_short_history = refl

  -- ---- different locks: lock G; lock H; global int x protected_by(G); global int y protected_by(H);
  -- atomic f() { x = 1; } atomic g() { y = 2; } thread a { f(); } thread b { g(); }

  abbrev setting : ℕ → ℕ → Section
  setting cell n = record {
    name = name;
    parameters = 0;
    locals = none;
    result_type = None;
    listed = none;
    result = None;
    body = vec (record { start = 0; action = SetGlobal cell (Number (pos n)) } ∷ []) (omega arith);
  }

  abbrev disjoint_locks_program : Typed
  disjoint_locks_program = record {
    classes = vec (class.Global name ∷ class.Global name ∷ []) (omega arith);
    structs = none;
    globals = vec (int_global 0 ∷ int_global 1 ∷ []) (omega arith);
    shape = no_shape;
    cells = vec (int_cell (owner.Global 0) 0 ∷ int_cell (owner.Global 1) 0 ∷ []) (omega arith);
    sections = vec (setting 0 1 ∷ setting 1 2 ∷ []) (omega arith);
    threads = vec (calling (a_call 0 [] (omega arith)) ∷ calling (a_call 1 [] (omega arith)) ∷ []) (omega arith);
  }

  abbrev disjoint_locks : Plan
  disjoint_locks = record {
    accepted = disjoint_locks_program;
    program = disjoint_locks_program;
    ranks = 0 ∷ 1 ∷ [];
    lists = ((0 ∷ []) ∷ []) ∷ ((0 ∷ []) ∷ []) ∷ [];
    layout = record {
      opening = Int (pos 0) ∷ Int (pos 0) ∷ [];
      cell_locks = the_lock 0 0 ∷ the_lock 1 0 ∷ [];
      locks = the_lock 0 0 ∷ the_lock 1 0 ∷ [];
    };
  }

  -- thread 1 runs whole while thread 0 holds G
  past_a_holder : trace disjoint_locks (times 0 3 ++ times 1 7) ≡
      Began ∷ Moved ∷ Got (the_lock 0 0) ∷ Began ∷ Moved ∷ Got (the_lock 1 0) ∷ replicate 3 Moved ++ Ended 0 ∷ []
  past_a_holder = refl

  past_a_holder_cells : (final disjoint_locks (times 0 3 ++ times 1 7)).cells ≡ None ∷ Some (Int (pos 2)) ∷ []
  past_a_holder_cells = refl

  -- ---- transfers: struct Acc { lock l; int bal protected_by(l); } pool Acc p[2]; init p[0].bal = 10; init p[1].bal = 20;
  -- atomic transfer(ref Acc a, ref Acc b, int k) : int { a.bal = a.bal - k; b.bal = b.bal + k; return b.bal; }

  abbrev balance : ℕ → Expr
  balance k = Place (a_path k (step.Field 0 0 ∷ []) (omega arith))

  abbrev transfer : Section
  transfer = record {
    name = name;
    parameters = 3;
    locals = vec (parameter (Reference 0) ∷ parameter (Reference 0) ∷ parameter Integer ∷ []) (omega arith);
    result_type = Some Integer;
    listed = none;
    result = Some (record { start = 0; value = balance 1 });
    body = vec (record { start = 0; action = SetField (a_path 0 [] (omega arith)) 0 0 (joined Sub (balance 0) (at_local 2)) }
        ∷ record { start = 0; action = SetField (a_path 1 [] (omega arith)) 0 0 (joined Add (balance 1) (at_local 2)) } ∷ []) (omega arith);
  }

  abbrev transfers_program : (threads : List Thread) → length threads < 2 ^ 63 → Typed
  transfers_program threads small = record {
    classes = vec (class.Field 0 0 ∷ []) (omega arith);
    structs = vec (record {
      name = name;
      locks = vec (record { name = name; class = 0 } ∷ []) (omega arith);
      finals = none;
      fields = vec (record { name = name; value_type = Integer; protection = record { through = none; class = 0 } } ∷ []) (omega arith);
    } ∷ []) (omega arith);
    globals = none;
    shape = record {
      arrays = none;
      pools = vec (record { name = name; first = 0; length = 2; structure = 0 } ∷ []) (omega arith);
      objects = vec (record { pool = 0; cells = 0; finals = 0 } ∷ record { pool = 0; cells = 1; finals = 0 } ∷ []) (omega arith);
      finals = none;
      helpers = none;
    };
    cells = vec (int_cell (owner.Field 0 0) 10 ∷ int_cell (owner.Field 1 0) 20 ∷ []) (omega arith);
    sections = vec (transfer ∷ []) (omega arith);
    threads = vec threads small;
  }

  abbrev transfers : (threads : List Thread) → length threads < 2 ^ 63 → Plan
  transfers threads small = record {
    accepted = transfers_program threads small;
    program = transfers_program threads small;
    ranks = 0 ∷ [];
    lists = ((0 ∷ 1 ∷ []) ∷ [] ∷ [] ∷ []) ∷ [];
    layout = record {
      opening = Int (pos 10) ∷ Int (pos 20) ∷ [];
      cell_locks = the_lock 0 0 ∷ the_lock 0 1 ∷ [];
      locks = the_lock 0 0 ∷ the_lock 0 1 ∷ [];
    };
  }

  abbrev transferring : ℕ → ℕ → ℕ → Thread
  transferring from to k = calling (a_call 0 (Ref (Some from) ∷ Ref (Some to) ∷ Int (pos k) ∷ []) (omega arith))

  abbrev ended : ℕ → Ended_call
  ended n = record { outcome = outcome.Returns (Int (pos n)); prints = [] }

  -- two threads, in opposite directions
  abbrev crossing : Plan
  crossing = transfers (transferring 0 1 5 ∷ transferring 1 0 7 ∷ []) (omega arith)

  -- both ask for the lock of p[0] first, so that the one that waits holds nothing
  both_ask : trace crossing (times 0 3 ++ times 1 3) ≡
      Began ∷ Moved ∷ Got (the_lock 0 0) ∷ Began ∷ Moved ∷ Waits (the_lock 0 0) 0 ∷ []
  both_ask = refl

  both_ask_cells : (final crossing (times 0 3 ++ times 1 3)).cells ≡ None ∷ Some (Int (pos 20)) ∷ []
  both_ask_cells = refl

  abbrev both_end : List ℕ
  both_end = times 0 3 ++ times 1 3 ++ times 0 40 ++ times 1 40

  both_end_answers : map answer_of (final crossing both_end).history ≡ ended 25 ∷ ended 12 ∷ []
  both_end_answers = refl

  both_end_cells : (final crossing both_end).cells ≡ Some (Int (pos 12)) ∷ Some (Int (pos 18)) ∷ []
  both_end_cells = refl

  -- a transfer from an account to itself: both paths name one lock, which is asked for once
  abbrev to_itself : Plan
  to_itself = transfers (transferring 0 0 5 ∷ []) (omega arith)

  aliases : trace to_itself (times 0 4) ≡ Began ∷ Moved ∷ Got (the_lock 0 0) ∷ Moved ∷ []
  aliases = refl

  aliases_cells : (final to_itself (times 0 3)).cells ≡ None ∷ Some (Int (pos 20)) ∷ []
  aliases_cells = refl

  aliases_answer : map answer_of (final to_itself (times 0 40)).history ≡ ended 10 ∷ []
  aliases_answer = refl

  -- ---- a section that never ends: lock G; global int n protected_by(G); atomic spin() { n = 1; while (0 == 0) { } } and inc

  abbrev spin : Section
  spin = record {
    name = name;
    parameters = 0;
    locals = none;
    result_type = None;
    listed = none;
    result = None;
    body = vec (record { start = 0; action = SetGlobal 0 (Number (pos 1)) }
        ∷ record { start = 0; action = While' (Compare Equal (Number (pos 0)) (Number (pos 0))) none end_of-Stmt } ∷ []) (omega arith);
  }

  abbrev endless_program : Typed
  endless_program = record inc_program {
    sections = vec (spin ∷ inc ∷ []) (omega arith);
    threads = vec (calling (a_call 0 [] (omega arith)) ∷ calling (a_call 1 [] (omega arith)) ∷ []) (omega arith);
  }

  abbrev endless : Plan
  endless = record lost_update {
    accepted = endless_program;
    program = endless_program;
    lists = ((0 ∷ []) ∷ [] ∷ []) ∷ ((0 ∷ []) ∷ []) ∷ [];
  }

  -- the other thread waits, and goes on waiting
  spinning : (final endless (times 0 3 ++ times 1 3 ++ times 0 994)).history ≡ []
  spinning = refl

  waiting : trace endless (times 0 3 ++ times 1 4) ≡
      Began ∷ Moved ∷ Got (the_lock 0 0) ∷ Began ∷ Moved ∷ Waits (the_lock 0 0) 0 ∷ Waits (the_lock 0 0) 0 ∷ []
  waiting = refl

  -- ---- a shared owner: struct B { lock l; int n protected_by(l); } struct N { final ref B owner; int v protected_by(owner.l); }
  -- pool B b[1]; pool N q[2]; both owners are b[0]; atomic f(ref N x, ref N y) { x.v = 1; y.v = 2; } thread t { f(q[0], q[1]); }

  abbrev set_both : Section
  set_both = record {
    name = name;
    parameters = 2;
    locals = vec (parameter (Reference 1) ∷ parameter (Reference 1) ∷ []) (omega arith);
    result_type = None;
    listed = none;
    result = None;
    body = vec (record { start = 0; action = SetField (a_path 0 [] (omega arith)) 1 0 (Number (pos 1)) }
        ∷ record { start = 0; action = SetField (a_path 1 [] (omega arith)) 1 0 (Number (pos 2)) } ∷ []) (omega arith);
  }

  abbrev shared_owner_program : Typed
  shared_owner_program = record {
    classes = vec (class.Field 0 0 ∷ []) (omega arith);
    structs = vec (record {
      name = name;
      locks = vec (record { name = name; class = 0 } ∷ []) (omega arith);
      finals = none;
      fields = vec (record { name = name; value_type = Integer; protection = record { through = none; class = 0 } } ∷ []) (omega arith);
    } ∷ record {
      name = name;
      locks = none;
      finals = vec (record { name = name; target = 0 } ∷ []) (omega arith);
      fields = vec (record {
        name = name;
        value_type = Integer;
        protection = record { through = vec (0 ∷ []) (omega arith); class = 0 };
      } ∷ []) (omega arith);
    } ∷ []) (omega arith);
    globals = none;
    shape = record {
      arrays = none;
      pools = vec (record { name = name; first = 0; length = 1; structure = 0 }
          ∷ record { name = name; first = 1; length = 2; structure = 1 } ∷ []) (omega arith);
      objects = vec (record { pool = 0; cells = 0; finals = 0 } ∷ record { pool = 1; cells = 1; finals = 0 }
          ∷ record { pool = 1; cells = 2; finals = 1 } ∷ []) (omega arith);
      finals = vec (0 ∷ 0 ∷ []) (omega arith);
      helpers = none;
    };
    cells = vec (int_cell (owner.Field 0 0) 0 ∷ int_cell (owner.Field 1 0) 0 ∷ int_cell (owner.Field 2 0) 0 ∷ []) (omega arith);
    sections = vec (set_both ∷ []) (omega arith);
    threads = vec (calling (a_call 0 (Ref (Some 1) ∷ Ref (Some 2) ∷ []) (omega arith)) ∷ []) (omega arith);
  }

  abbrev shared_owner : Plan
  shared_owner = record {
    accepted = shared_owner_program;
    program = shared_owner_program;
    ranks = 0 ∷ [];
    lists = ((0 ∷ 1 ∷ []) ∷ [] ∷ []) ∷ [];
    layout = record {
      opening = Int (pos 0) ∷ Int (pos 0) ∷ Int (pos 0) ∷ [];
      cell_locks = replicate 3 (the_lock 0 0);
      locks = the_lock 0 0 ∷ [];
    };
  }

  -- both paths name one lock, with which all three cells are granted
  all_at_once : trace shared_owner (times 0 4) ≡ Began ∷ Moved ∷ Got (the_lock 0 0) ∷ Moved ∷ []
  all_at_once = refl

  all_at_once_cells : (final shared_owner (times 0 3)).cells ≡ replicate 3 (None)
  all_at_once_cells = refl

  both_set : (final shared_owner (times 0 40)).cells ≡ map (λ n. Some (Int (pos n))) (0 ∷ 1 ∷ 2 ∷ [])
  both_set = refl
