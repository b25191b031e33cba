-- A worked section, written by hand, and what the definitions compute for its acquires in C. No proof depends on these:
-- they show the definitions at work.
use Rattle.std.specs.Prelude.{◌≡◌, ℕ, false, ◌<◌, ◌^◌, length, map, List, [], ◌∷◌, Option, Some, None, pos, String}
use Rattle.std.proofs.Common.{refl, Vec, Global, arith}
use denote.RawPtr.{null_ptr}
use Rattle.core_lang.specs.declared.value.Value.TheVariants.{Int, Ref}
use Rattle.core_lang.specs.declared.value.ValueType.TheVariants.{Integer, Reference}
use Rattle.core_lang.specs.declared.tree.LocalKind.TheVariants.{Parameter}
use Rattle.core_lang.specs.declared.tree.Expr.{Number}
use Rattle.core_lang.specs.declared.tree.Action.{SetField}
use Rattle.core_lang.specs.declared.tree.Local.{Local}
use Rattle.core_lang.specs.declared.tree.Section.{Section}
use Rattle.core_lang.specs.declared.tree.Stmt.{Stmt}
use Rattle.core_lang.specs.declared.typed.Cell.{Cell}
use Rattle.core_lang.specs.declared.typed.LockClass.TheVariants as class
use Rattle.core_lang.specs.declared.typed.CellOwner.TheVariants as owner
use Rattle.core_lang.specs.declared.typed.Typed.{Typed}
use Rattle.locks.specs.declared.lock.Lock.{Lock}
use Rattle.c_threads.specs.Locking.{Pointer, Locking, Acquired, acquired, given_back, drop_all, order_all, take_all}
use Rattle.c_threads.specs.Locking.{Ask, Drop, Note, Exchange, Take, TakeAlone, statements}
use Rattle.locks.specs.LockPaths.{lock_paths}

module _ (alloc : Global) (name : String Global) where
  abbrev vec : {X : Type 0} (xs : List X) → length xs < 2 ^ 63 → Vec X Global
  vec xs small =
      record { ptr = null_ptr; len = length xs; cap = length xs; alloc = alloc; items = xs; ok = (refl, omega arith); small = small }

  abbrev none : {X : Type 0} → Vec X Global
  none = vec [] (omega arith)

  -- ---- struct Acc { lock l; int bal protected_by(l); } pool Acc p[2];
  -- atomic clear(ref Acc a, ref Acc b) { a.bal = 0; b.bal = 0; }

  abbrev account : Local
  account = record { name = name; kind = Parameter; value_type = Reference 0 }

  abbrev cleared : ℕ → Stmt
  cleared k = record {
    start = 0;
    action = SetField (record { start = 0; local = k; fields = none; in_parentheses = false }) 0 0 (Number (pos 0));
  }

  abbrev clear : Section
  clear = record {
    name = name;
    parameters = 2;
    locals = vec (account ∷ account ∷ []) (omega arith);
    result_type = None;
    result = None;
    body = vec (cleared 0 ∷ cleared 1 ∷ []) (omega arith);
    listed = none;
  }

  -- the same with lock(Acc.l) in its head
  abbrev clear_all : Section
  clear_all = record clear { listed = vec (0 ∷ []) (omega arith) }

  abbrev balance : ℕ → Cell
  balance k = record { owner = owner.Field k 0; value_type = Integer; opening = Int (pos 0) }

  abbrev accounts : Typed
  accounts = record {
    classes = vec (class.Field 0 0 ∷ []) (omega arith);
    structs = vec (record {
      name = name;
      locks = vec (record { name = name; class = 0 } ∷ []) (omega arith);
      finals = none;
      fields = vec (record { name = name; value_type = Integer; protection = record { through = none; class = 0 } } ∷ []) (omega arith);
    } ∷ []) (omega arith);
    globals = none;
    shape = record {
      arrays = none;
      pools = vec (record { name = name; first = 0; length = 2; structure = 0 } ∷ []) (omega arith);
      objects = vec (record { pool = 0; cells = 0; finals = 0 } ∷ record { pool = 0; cells = 1; finals = 0 } ∷ []) (omega arith);
      finals = none;
      helpers = none;
    };
    cells = vec (balance 0 ∷ balance 1 ∷ []) (omega arith);
    sections = vec (clear ∷ []) (omega arith);
    threads = none;
  }

  abbrev its_lock : ℕ → Lock
  its_lock o = record { class = 0; object = o }

  -- both paths are acquired before the first point, of two of their class
  the_statements : statements (lock_paths accounts clear) (0 ∷ 1 ∷ [])
      ≡ Ask 0 0 ∷ Ask 1 1 ∷ Drop 1 (0 ∷ 1 ∷ []) [] ∷ Drop 0 (0 ∷ 1 ∷ []) (1 ∷ []) ∷ Note 0 0 ∷ Note 1 1 ∷ Exchange 0
      ∷ Take 0 ∷ Take 1 ∷ []
  the_statements = refl

  -- on these accounts, with these notes
  abbrev acquires : Option ℕ → Option ℕ → List Pointer → Option Acquired
  acquires a b notes = acquired accounts clear (Ref a ∷ Ref b ∷ []) (0 ∷ 1 ∷ []) notes

  abbrev leaves : List Pointer → List Lock → Option Acquired
  leaves notes calls = Some (record { notes = notes; calls = calls })

  in_order : acquires (Some 0) (Some 1) (None ∷ None ∷ [])
      ≡ leaves (Some (its_lock 0) ∷ Some (its_lock 1) ∷ []) (its_lock 0 ∷ its_lock 1 ∷ [])
  in_order = refl

  -- by object, whatever the order of the paths
  turned : acquires (Some 1) (Some 0) (None ∷ None ∷ [])
      ≡ leaves (Some (its_lock 1) ∷ Some (its_lock 0) ∷ []) (its_lock 0 ∷ its_lock 1 ∷ [])
  turned = refl

  -- an account twice: its lock is taken once, and noted once
  twice : acquires (Some 1) (Some 1) (None ∷ None ∷ []) ≡ leaves (None ∷ Some (its_lock 1) ∷ []) (its_lock 1 ∷ [])
  twice = refl

  -- a null root names no lock
  with_null : acquires None (Some 1) (None ∷ None ∷ []) ≡ leaves (None ∷ Some (its_lock 1) ∷ []) (its_lock 1 ∷ [])
  with_null = refl

  -- one that is held isn't taken again, also where another path holds it
  held_already : acquires (Some 0) (Some 1) (Some (its_lock 0) ∷ None ∷ [])
      ≡ leaves (Some (its_lock 0) ∷ Some (its_lock 1) ∷ []) (its_lock 1 ∷ [])
  held_already = refl

  held_by_another : acquires (Some 1) (Some 1) (None ∷ Some (its_lock 1) ∷ []) ≡ leaves (None ∷ Some (its_lock 1) ∷ []) []
  held_by_another = refl

  -- each is given back, the last path's first
  back : given_back accounts clear (Some (its_lock 1) ∷ Some (its_lock 0) ∷ []) ≡ its_lock 0 ∷ its_lock 1 ∷ []
  back = refl

  back_once : given_back accounts clear (None ∷ Some (its_lock 1) ∷ []) ≡ its_lock 1 ∷ []
  back_once = refl

  -- ---- a whole class, which is one path

  whole_statements : statements (lock_paths accounts clear_all) (0 ∷ []) ≡ TakeAlone 0 ∷ []
  whole_statements = refl

  abbrev acquires_all : List Pointer → Option Acquired
  acquires_all notes = acquired accounts clear_all (Ref (Some 1) ∷ Ref (Some 0) ∷ []) (0 ∷ []) notes

  -- the lock of each member is taken, in the order of the members, and the note is the last one
  all_taken : acquires_all (None ∷ []) ≡ leaves (Some (its_lock 1) ∷ []) (its_lock 0 ∷ its_lock 1 ∷ [])
  all_taken = refl

  -- a class that is held isn't taken again
  all_held : acquires_all (Some (its_lock 1) ∷ []) ≡ leaves (Some (its_lock 1) ∷ []) []
  all_held = refl

  -- the note stands for all of them
  all_back : given_back accounts clear_all (Some (its_lock 1) ∷ []) ≡ its_lock 0 ∷ its_lock 1 ∷ []
  all_back = refl

  -- ---- the three functions, on arrays

  abbrev with_array : List Pointer → List Pointer → List Lock → Locking
  with_array notes asked calls = record { notes = notes; asked = map (λ (p : Pointer). Some p) asked; calls = calls }

  abbrev at : ℕ → Pointer
  at o = Some (its_lock o)

  -- what is held is dropped, and of equal ones all but the last
  drops : drop_all 4 2 (with_array (None ∷ at 5 ∷ []) (at 3 ∷ at 5 ∷ at 3 ∷ at 1 ∷ []) [])
      ≡ Some (with_array (None ∷ at 5 ∷ []) (None ∷ None ∷ at 3 ∷ at 1 ∷ []) [])
  drops = refl

  orders : order_all 4 (with_array [] (at 3 ∷ None ∷ at 7 ∷ at 1 ∷ []) [])
      ≡ Some (with_array [] (None ∷ at 1 ∷ at 3 ∷ at 7 ∷ []) [])
  orders = refl

  takes : take_all 4 (with_array [] (None ∷ at 1 ∷ at 3 ∷ at 7 ∷ []) [])
      ≡ Some (with_array [] (None ∷ at 1 ∷ at 3 ∷ at 7 ∷ []) (its_lock 1 ∷ its_lock 3 ∷ its_lock 7 ∷ []))
  takes = refl

  -- two locks of different classes have no known order
  not_known : order_all 2 (with_array [] (at 3 ∷ Some (record { class = 1; object = 0 }) ∷ []) []) ≡ None
  not_known = refl
