-- Worked sections, written by hand, and what the definitions compute for them. No proof depends on these: they show the
-- definitions at work.
use Rattle.std.specs.Prelude.{Option, Ok, Err, ◌≡◌, ℕ, ◌<◌, ◌^◌, length, List, [], ◌∷◌, map, Some, None, pos}
use Rattle.std.specs.Prelude.{Bool, true, false, String, ◌++◌, codes, string_bytes}
use Rattle.std.proofs.Common.{refl, Vec, Global, arith}
use denote.RawPtr.{null_ptr}
use Rattle.core_lang.specs.declared.value.Value.TheVariants.{Int}
use Rattle.core_lang.specs.declared.value.ValueType.{ValueType}
use Rattle.core_lang.specs.declared.value.ValueType.TheVariants.{Integer, Reference}
use Rattle.core_lang.specs.declared.tree.Comparison.TheVariants.{Greater}
use Rattle.core_lang.specs.declared.tree.Operator.TheVariants.{Add}
use Rattle.core_lang.specs.declared.tree.LocalKind.TheVariants.{Parameter, Let, Var}
use Rattle.core_lang.specs.declared.tree.LocalKind.{LocalKind}
use Rattle.core_lang.specs.declared.value.Failure.TheVariants.{Trap as Failed}
use Rattle.core_lang.specs.declared.value.Trap.TheVariants.{NotOwned}
use Rattle.core_lang.specs.Cells.{owned}
use Rattle.core_lang.specs.declared.tree.Path.{Path}
use Rattle.core_lang.specs.declared.tree.FieldStep.{FieldStep}
use Rattle.core_lang.specs.declared.tree.FieldStep.TheVariants as step
use Rattle.core_lang.specs.declared.tree.Expr.{Element', Expr, Number, Null, Place, Global as GlobalExpr, Member'}
use Rattle.core_lang.specs.declared.tree.Expr.{Owned', Chain', end_of-Operation, more_of-Operation}
use Rattle.std.proofs.Common.{Box}
use Rattle.core_lang.specs.declared.tree.Condition.{Compare}
use Rattle.core_lang.specs.declared.tree.Action.{Bind, SetGlobal, SetElement, SetField, Print, If', IfElse'}
use Rattle.core_lang.specs.declared.tree.Action.{While', end_of-Stmt, more_of-Stmt}
use Rattle.core_lang.specs.declared.tree.Local.{Local}
use Rattle.core_lang.specs.declared.tree.Section.{Section}
use Rattle.flow.specs.Skeletons.{count, skeleton}
use Rattle.flow.specs.Flow.{pairs}
use Rattle.core_lang.specs.declared.value.Value.TheVariants.{Ref}
use Rattle.core_lang.specs.declared.shape.Shape.{Shape}
use Rattle.core_lang.specs.declared.typed.LockClass.TheVariants as class
use Rattle.core_lang.specs.declared.typed.LockField.{LockField}
use Rattle.core_lang.specs.declared.typed.Protection.{Protection}
use Rattle.core_lang.specs.declared.typed.GlobalVariable.{GlobalVariable}
use Rattle.core_lang.specs.declared.typed.CellOwner.{CellOwner}
use Rattle.core_lang.specs.declared.typed.CellOwner.TheVariants as owner
use Rattle.core_lang.specs.declared.typed.Cell.{Cell}
use Rattle.core_lang.specs.declared.typed.Typed.{Typed}
use Rattle.flow.specs.Points.{points, start_of, scopes}
use Rattle.locks.specs.declared.lock.Lock.{Lock}
use Rattle.locks.specs.declared.path.Root.TheVariants.{Local as AtLocal}
use Rattle.source.specs.declared.fault.Code.TheVariants.{UnstableBase}
use Rattle.locks.specs.Accesses.{access, global, element, field, accesses, in_expr}
use Rattle.core_lang.specs.declared.typed.Struct.{Struct}
use Rattle.locks.specs.Texts.{path_text, class_name}
use Rattle.locks.specs.Faults.{IsFault, unstable_base, unstable as unstable_at}
use Rattle.locks.specs.Locks.{lock_of_cell}
use Rattle.locks.specs.LockPaths.{LockPath, lock_paths, lock_path, global_path, whole_class, locks_named}
use Rattle.locks.specs.LockPaths.{most_locks}

module _ (alloc : Global) (name : String Global) where
  abbrev pub vec : {X : Type 0} (xs : List X) → length xs < 2 ^ 63 → Vec X Global
  vec xs small = record { ptr = null_ptr; len = length xs; cap = length xs; alloc = alloc; items = xs; ok = (refl, omega arith); small = small }

  -- what is left of the `Vec` of a tree besides its items: how many there are
  abbrev pub one : Vec (Unit {0}) Global
  one = vec (tt ∷ []) (omega arith)

  abbrev pub two : Vec (Unit {0}) Global
  two = vec (tt ∷ tt ∷ []) (omega arith)

  abbrev pub boxed : Box (Unit {0}) Global
  boxed = record { ptr = null_ptr; alloc = alloc; value = tt }

  abbrev pub plus : Expr → Expr → Expr
  plus a b = Chain' boxed a one (more_of-Operation Add b end_of-Operation)

  abbrev pub a_path : ℕ → ℕ → (fields : List FieldStep) → length fields < 2 ^ 63 → Path
  a_path start local fields small = record { start = start; local = local; fields = vec fields small; in_parentheses = false }

  abbrev pub lone : ℕ → ℕ → Expr
  lone start local = Place (a_path start local [] (omega arith))

  abbrev pub parameter : ValueType → Local
  parameter t = record { name = name; kind = Parameter; value_type = t }

  abbrev pub none : {X : Type 0} → Vec X Global
  none = vec [] (omega arith)

  abbrev pub a_let : ValueType → Local
  a_let t = record { name = name; kind = Let; value_type = t }

  abbrev pub a_var : ValueType → Local
  a_var t = record { name = name; kind = Var; value_type = t }

  abbrev pub a_global : ℕ → ℕ → GlobalVariable
  a_global cell class = record { name = name; cell = cell; class = class }

  abbrev pub number_cell : CellOwner → Cell
  number_cell o = record { owner = o; value_type = Integer; opening = Int (pos 0) }

  abbrev pub no_shape : Shape
  no_shape = record { arrays = none; pools = none; objects = none; finals = none; helpers = none }

  -- lock G; global int n protected_by(G);
  abbrev pub counter : Typed
  counter = record {
    classes = vec (class.Global name ∷ []) (omega arith);
    structs = none;
    globals = vec (a_global 0 0 ∷ []) (omega arith);
    shape = no_shape;
    cells = vec (number_cell (owner.Global 0) ∷ []) (omega arith);
    sections = none;
    threads = none;
  }

  abbrev pub the_lock : ℕ → ℕ → Lock
  the_lock c o = record { class = c; object = o }

  abbrev pub path_at : ℕ → List ℕ → ℕ → LockPath
  path_at k finals c = record { root = AtLocal k; finals = finals; class = c }

  -- ---- one branch

  -- if (k > 0) { n = n + k; } print n;
  abbrev pub one_branch : Section
  one_branch = record {
    name = name;
    parameters = 1;
    locals = vec (parameter Integer ∷ []) (omega arith);
    result_type = None;
    listed = none;
    result = None;
    body = vec (record {
      start = 58;
      action = If' (Compare Greater (lone 62 0) (Number (pos 0))) one
          (more_of-Stmt 71 (SetGlobal 0 (plus (GlobalExpr 75 0) (lone 79 0))) end_of-Stmt);
    }
        ∷ record { start = 86; action = Print (GlobalExpr 92 0) } ∷ []) (omega arith);
  }

  one_branch_pairs : pairs (skeleton one_branch) ≡ (0, 1) ∷ (0, 2) ∷ (1, 2) ∷ []
  one_branch_pairs = refl

  one_branch_starts : map start_of (points one_branch) ≡ 58 ∷ 71 ∷ 86 ∷ []
  one_branch_starts = refl

  one_branch_count : count (skeleton one_branch) ≡ 3
  one_branch_count = refl

  one_branch_scopes : scopes one_branch ≡ (0 ∷ []) ∷ (0 ∷ []) ∷ (0 ∷ []) ∷ []
  one_branch_scopes = refl

  one_branch_accesses : accesses one_branch ≡ access 71 (global 0) ∷ access 75 (global 0) ∷ access 92 (global 0) ∷ []
  one_branch_accesses = refl

  one_branch_paths : lock_paths counter one_branch ≡ global_path 0 ∷ []
  one_branch_paths = refl

  -- ---- countdown: while (n > 0) { n = n - 1; }

  abbrev pub countdown : Section
  countdown = record {
    name = name;
    parameters = 0;
    locals = none;
    result_type = None;
    listed = none;
    result = None;
    body = vec (record {
      start = 58;
      action = While' (Compare Greater (GlobalExpr 65 0) (Number (pos 0))) one
          (more_of-Stmt 74 (SetGlobal 0 (plus (GlobalExpr 78 0) (Number (pos 1)))) end_of-Stmt);
    } ∷ []) (omega arith);
  }

  countdown_pairs : pairs (skeleton countdown) ≡ (0, 1) ∷ (1, 0) ∷ []
  countdown_pairs = refl

  -- an empty body is followed by its condition
  abbrev pub spin : Section
  spin = record {
    name = name;
    parameters = 0;
    locals = none;
    result_type = None;
    listed = none;
    result = None;
    body = vec (record { start = 0; action = While' (Compare Greater (GlobalExpr 7 0) (Number (pos 0))) none end_of-Stmt } ∷ []) (omega arith);
  }

  spin_pairs : pairs (skeleton spin) ≡ (0, 0) ∷ []
  spin_pairs = refl

  -- ---- accounts: struct Acc { lock l; int bal protected_by(l); }

  abbrev pub own_lock : ℕ → Protection
  own_lock c = record { through = none; class = c }

  abbrev pub a_lock : ℕ → LockField
  a_lock c = record { name = name; class = c }

  abbrev pub accounts : Typed
  accounts = record {
    classes = vec (class.Field 0 0 ∷ []) (omega arith);
    structs = vec (record {
      name = name;
      locks = vec (a_lock 0 ∷ []) (omega arith);
      finals = none;
      fields = vec (record { name = name; value_type = Integer; protection = own_lock 0 } ∷ []) (omega arith);
    } ∷ []) (omega arith);
    globals = none;
    shape = no_shape;
    cells = none;
    sections = none;
    threads = none;
  }

  abbrev pub one_field : ℕ → ℕ → ℕ → ℕ → Path
  one_field start local s f = a_path start local (step.Field s f ∷ []) (omega arith)

  abbrev pub account : ValueType
  account = Reference 0

  -- a.bal = a.bal + k; b.bal = b.bal + k; return b.bal;
  abbrev pub transfer : Section
  transfer = record {
    name = name;
    parameters = 3;
    locals = vec (parameter account ∷ parameter account ∷ parameter Integer ∷ []) (omega arith);
    result_type = Some Integer;
    listed = none;
    result = Some (record { start = 60; value = Place (one_field 67 1 0 0) });
    body = vec (record { start = 10; action = SetField (a_path 10 0 [] (omega arith)) 0 0 (plus (Place (one_field 18 0 0 0)) (lone 26 2)) }
        ∷ record { start = 30; action = SetField (a_path 30 1 [] (omega arith)) 0 0 (plus (Place (one_field 38 1 0 0)) (lone 46 2)) } ∷ []) (omega arith);
  }

  transfer_pairs : pairs (skeleton transfer) ≡ (0, 1) ∷ (1, 2) ∷ []
  transfer_pairs = refl

  transfer_paths : lock_paths accounts transfer ≡ path_at 0 [] 0 ∷ path_at 1 [] 0 ∷ []
  transfer_paths = refl

  -- let c: ref Acc = a; c.bal = 1;      and with (a) in place of a, and with a var
  abbrev pub alias : Bool → Local → Section
  alias in_parentheses c = record {
    name = name;
    parameters = 1;
    locals = vec (parameter account ∷ c ∷ []) (omega arith);
    result_type = None;
    listed = none;
    result = None;
    body = vec (record { start = 10; action = Bind 1 (Place (record { start = 20; local = 0; fields = none; in_parentheses = in_parentheses })) }
        ∷ record { start = 30; action = SetField (a_path 30 1 [] (omega arith)) 0 0 (Number (pos 1)) } ∷ []) (omega arith);
  }

  alias_paths : lock_paths accounts (alias false (a_let account)) ≡ path_at 0 [] 0 ∷ []
  alias_paths = refl

  parentheses_paths : lock_paths accounts (alias true (a_let account)) ≡ path_at 1 [] 0 ∷ []
  parentheses_paths = refl

  -- the access through the `var` has none
  unstable : map (lock_path accounts (alias false (a_var account))) (accesses (alias false (a_var account))) ≡ None ∷ []
  unstable = refl

  -- ---- hand over hand: struct Node { lock l; int v protected_by(l); ref Node next protected_by(l); }

  -- let b: ref Node = a.next; b.v = 1;
  abbrev pub hand_over_hand : Section
  hand_over_hand = record {
    name = name;
    parameters = 1;
    locals = vec (parameter account ∷ a_let account ∷ []) (omega arith);
    result_type = None;
    listed = none;
    result = None;
    body = vec (record { start = 10; action = Bind 1 (Place (one_field 24 0 0 1)) }
        ∷ record { start = 40; action = SetField (a_path 40 1 [] (omega arith)) 0 0 (Number (pos 1)) } ∷ []) (omega arith);
  }

  abbrev pub nodes : Typed
  nodes = record {
    classes = vec (class.Field 0 0 ∷ []) (omega arith);
    structs = vec (record {
      name = name;
      locks = vec (a_lock 0 ∷ []) (omega arith);
      finals = none;
      fields = vec (record { name = name; value_type = Integer; protection = own_lock 0 } ∷ record { name = name; value_type = account; protection = own_lock 0 } ∷ []) (omega arith);
    } ∷ []) (omega arith);
    globals = none;
    shape = no_shape;
    cells = none;
    sections = vec (hand_over_hand ∷ []) (omega arith);
    threads = none;
  }

  hand_over_hand_paths : lock_paths nodes hand_over_hand ≡ path_at 0 [] 0 ∷ path_at 1 [] 0 ∷ []
  hand_over_hand_paths = refl

  -- ---- taken ahead: y = 1; x = 2;      under two global locks

  abbrev pub taken_ahead : Section
  taken_ahead = record {
    name = name;
    parameters = 0;
    locals = none;
    result_type = None;
    listed = none;
    result = None;
    body = vec (record { start = 13; action = SetGlobal 1 (Number (pos 1)) } ∷ record { start = 20; action = SetGlobal 0 (Number (pos 2)) } ∷ []) (omega arith);
  }

  abbrev pub two_locks : Typed
  two_locks = record {
    classes = vec (class.Global name ∷ class.Global name ∷ []) (omega arith);
    structs = none;
    globals = vec (a_global 0 0 ∷ a_global 1 1 ∷ []) (omega arith);
    shape = no_shape;
    cells = vec (number_cell (owner.Global 0) ∷ number_cell (owner.Global 1) ∷ []) (omega arith);
    sections = vec (taken_ahead ∷ []) (omega arith);
    threads = none;
  }

  taken_ahead_paths : lock_paths two_locks taken_ahead ≡ global_path 1 ∷ global_path 0 ∷ []
  taken_ahead_paths = refl

  -- ---- a shared owner: struct B { lock l; int n protected_by(l); } struct N { final ref B owner; int v protected_by(owner.l); }

  abbrev pub shared : Typed
  shared = record {
    classes = vec (class.Field 0 0 ∷ []) (omega arith);
    structs = vec (record {
      name = name;
      locks = vec (a_lock 0 ∷ []) (omega arith);
      finals = none;
      fields = vec (record { name = name; value_type = Integer; protection = own_lock 0 } ∷ []) (omega arith);
    }
        ∷ record {
          name = name;
          locks = none;
          finals = vec (record { name = name; target = 0 } ∷ []) (omega arith);
          fields = vec (record { name = name; value_type = Integer; protection = record { through = vec (0 ∷ []) (omega arith); class = 0 } } ∷ []) (omega arith);
        } ∷ []) (omega arith);
    globals = none;
    shape = record {
      arrays = none;
      pools = vec (record { name = name; first = 0; length = 1; structure = 0 } ∷ record { name = name; first = 1; length = 2; structure = 1 } ∷ []) (omega arith);
      objects = vec (record { pool = 0; cells = 0; finals = 0 } ∷ record { pool = 1; cells = 1; finals = 0 } ∷ record { pool = 1; cells = 2; finals = 1 } ∷ []) (omega arith);
      finals = vec (0 ∷ 0 ∷ []) (omega arith);
      helpers = none;
    };
    cells = vec (number_cell (owner.Field 0 0) ∷ number_cell (owner.Field 1 0) ∷ number_cell (owner.Field 2 0) ∷ []) (omega arith);
    sections = none;
    threads = none;
  }

  -- x.v = 1; y.v = 2;
  abbrev pub shared_owner : Section
  shared_owner = record {
    name = name;
    parameters = 2;
    locals = vec (parameter (Reference 1) ∷ parameter (Reference 1) ∷ []) (omega arith);
    result_type = None;
    listed = none;
    result = None;
    body = vec (record { start = 30; action = SetField (a_path 30 0 [] (omega arith)) 1 0 (Number (pos 1)) }
        ∷ record { start = 39; action = SetField (a_path 39 1 [] (omega arith)) 1 0 (Number (pos 2)) } ∷ []) (omega arith);
  }

  shared_owner_paths : lock_paths shared shared_owner ≡ path_at 0 (0 ∷ []) 0 ∷ path_at 1 (0 ∷ []) 0 ∷ []
  shared_owner_paths = refl

  -- the three cells have one lock, which both paths name
  shared_owner_locks : map (lock_of_cell shared) (0 ∷ 1 ∷ 2 ∷ []) ≡ Some (the_lock 0 0) ∷ Some (the_lock 0 0) ∷ Some (the_lock 0 0) ∷ []
  shared_owner_locks = refl

  shared_owner_named : map (λ path. locks_named path shared.shape (Ref (Some 1) ∷ Ref (Some 2) ∷ [])) (lock_paths shared shared_owner) ≡ (the_lock 0 0 ∷ []) ∷ (the_lock 0 0 ∷ []) ∷ []
  shared_owner_named = refl

  null_root : locks_named (path_at 0 (0 ∷ []) 0) shared.shape (Ref None ∷ Ref (Some 2) ∷ []) ≡ []
  null_root = refl

  -- ---- scopes: if (k > 0) { let b: ref Acc = a; b.bal = 1; } else { print k; } let c: ref Acc = a; print k;

  abbrev pub blocks : Section
  blocks = record {
    name = name;
    parameters = 2;
    locals = vec (parameter account ∷ parameter Integer ∷ a_let account ∷ a_let account ∷ []) (omega arith);
    result_type = None;
    listed = none;
    result = None;
    body = vec (record {
      start = 0;
      action = IfElse' (Compare Greater (lone 4 1) (Number (pos 0))) two
          (more_of-Stmt 10 (Bind 2 (lone 20 0)) (more_of-Stmt 30 (SetField (a_path 30 2 [] (omega arith)) 0 0 (Number (pos 1))) end_of-Stmt))
          one (more_of-Stmt 40 (Print (lone 46 1)) end_of-Stmt);
    }
        ∷ record { start = 50; action = Bind 3 (lone 60 0) } ∷ record { start = 70; action = Print (lone 76 1) } ∷ []) (omega arith);
  }

  blocks_pairs : pairs (skeleton blocks) ≡ (0, 1) ∷ (0, 3) ∷ (1, 2) ∷ (2, 4) ∷ (3, 4) ∷ (4, 5) ∷ []
  blocks_pairs = refl

  blocks_scopes : scopes blocks ≡ (0 ∷ 1 ∷ []) ∷ (0 ∷ 1 ∷ []) ∷ (2 ∷ 0 ∷ 1 ∷ []) ∷ (0 ∷ 1 ∷ []) ∷ (0 ∷ 1 ∷ []) ∷ (3 ∷ 0 ∷ 1 ∷ []) ∷ []
  blocks_scopes = refl

  -- the `let` is bound at point 1 and replaced by the parameter
  blocks_paths : lock_paths accounts blocks ≡ path_at 0 [] 0 ∷ []
  blocks_paths = refl

  -- a chain of `let`s, the last by a field: let b: ref N = x; let c: ref B = b.owner; c.n = 1;      of the shared owner's program
  abbrev pub aliases : Section
  aliases = record {
    name = name;
    parameters = 1;
    locals = vec (parameter (Reference 1) ∷ a_let (Reference 1) ∷ a_let (Reference 0) ∷ []) (omega arith);
    result_type = None;
    listed = none;
    result = None;
    body = vec (record { start = 0; action = Bind 1 (lone 10 0) }
        ∷ record { start = 20; action = Bind 2 (Place (a_path 30 1 (step.Final 1 0 ∷ []) (omega arith))) }
        ∷ record { start = 40; action = SetField (a_path 40 2 [] (omega arith)) 0 0 (Number (pos 1)) } ∷ []) (omega arith);
  }

  aliases_paths : lock_paths shared aliases ≡ path_at 0 (0 ∷ []) 0 ∷ []
  aliases_paths = refl

  -- ---- a bound on ranks: x = 1; let b: ref S = p[0]; b.v = 2; y = 3;      ranks: G 0, S.l 1, H 2

  abbrev pub three_locks : Typed
  three_locks = record {
    classes = vec (class.Global name ∷ class.Field 0 0 ∷ class.Global name ∷ []) (omega arith);
    structs = vec (record {
      name = name;
      locks = vec (a_lock 1 ∷ []) (omega arith);
      finals = none;
      fields = vec (record { name = name; value_type = Integer; protection = own_lock 1 } ∷ []) (omega arith);
    } ∷ []) (omega arith);
    globals = vec (a_global 0 0 ∷ a_global 1 2 ∷ []) (omega arith);
    shape = no_shape;
    cells = vec (number_cell (owner.Global 0) ∷ number_cell (owner.Global 1) ∷ []) (omega arith);
    sections = none;
    threads = none;
  }

  abbrev pub rising : Section
  rising = record {
    name = name;
    parameters = 0;
    locals = vec (a_let (Reference 0) ∷ []) (omega arith);
    result_type = None;
    listed = none;
    result = None;
    body = vec (record { start = 0; action = SetGlobal 0 (Number (pos 1)) }
        ∷ record { start = 10; action = Bind 0 (Member' 0 boxed (Number (pos 0))) }
        ∷ record { start = 30; action = SetField (a_path 30 0 [] (omega arith)) 0 0 (Number (pos 2)) }
        ∷ record { start = 40; action = SetGlobal 1 (Number (pos 3)) } ∷ []) (omega arith);
  }

  rising_paths : lock_paths three_locks rising ≡ global_path 0 ∷ path_at 0 [] 1 ∷ global_path 2 ∷ []
  rising_paths = refl

  -- ---- texts, with one name for everything

  path_texts : path_text shared shared_owner (path_at 0 (0 ∷ []) 0) ≡ (string_bytes name ++ codes "." ++ (string_bytes name ++ codes "." ++ [])) ++ string_bytes name
  path_texts = refl

  class_texts : class_name shared 0 ≡ string_bytes name ++ codes "." ++ string_bytes name
  class_texts = refl

  -- ---- how many paths
  under_limit : length (lock_paths shared shared_owner) ≡ 2
  under_limit = refl

  -- ---- unstable base: var c: ref Acc = a; c.bal = 1;

  abbrev pub unstable_program : Typed
  unstable_program = record accounts { sections = vec (alias false (a_var account) ∷ []) (omega arith) }

  unstable_fault : IsFault unstable_program UnstableBase 30
  unstable_fault = unstable_base (unstable_at {section = alias false (a_var account)} {a = access 30 (field 1 [] 0 0)} (0, refl) (0, omega arith, refl) refl)

  -- ---- a cycle across sections: struct A { lock l; ref B b protected_by(l); int x protected_by(l); } and B, the other way round

  abbrev pub crossing : ℕ → ℕ → Struct
  crossing c target = record {
    name = name;
    locks = vec (a_lock c ∷ []) (omega arith);
    finals = none;
    fields = vec (record { name = name; value_type = Reference target; protection = own_lock c } ∷ record { name = name; value_type = Integer; protection = own_lock c } ∷ []) (omega arith);
  }

  -- of a reference r to one: let s = r.b; s.y = 1;
  abbrev pub crosses : ℕ → ℕ → Section
  crosses from to = record {
    name = name;
    parameters = 1;
    locals = vec (parameter (Reference from) ∷ a_let (Reference to) ∷ []) (omega arith);
    result_type = None;
    listed = none;
    result = None;
    body = vec (record { start = 10; action = Bind 1 (Place (one_field 24 0 from 0)) } ∷ record { start = 40; action = SetField (a_path 40 1 [] (omega arith)) to 1 (Number (pos 1)) } ∷ []) (omega arith);
  }

  abbrev pub across : Typed
  across = record {
    classes = vec (class.Field 0 0 ∷ class.Field 1 0 ∷ []) (omega arith);
    structs = vec (crossing 0 1 ∷ crossing 1 0 ∷ []) (omega arith);
    globals = none;
    shape = no_shape;
    cells = none;
    sections = vec (crosses 0 1 ∷ crosses 1 0 ∷ []) (omega arith);
    threads = none;
  }

  across_paths : lock_paths across (crosses 0 1) ≡ path_at 0 [] 0 ∷ path_at 1 [] 1 ∷ []
  across_paths = refl

  -- ---- whole classes: the same sections with `lock(..)` in their heads

  abbrev pub listing : ℕ → Section → Section
  listing number section = record section { listed = vec (number ∷ []) (omega arith) }

  -- any base will do
  listed_base : map (lock_path accounts (listing 0 (alias false (a_var account)))) (accesses (alias false (a_var account))) ≡ Some (whole_class 0 0) ∷ []
  listed_base = refl

  -- one path of the class; that of another class is what it was
  listed_across : lock_paths across (listing 1 (crosses 0 1)) ≡ path_at 0 [] 0 ∷ whole_class 1 1 ∷ []
  listed_across = refl

  listed_text : path_text across (crosses 0 1) (whole_class 1 1) ≡ string_bytes name ++ codes "." ++ string_bytes name
  listed_text = refl

  listed_named : locks_named (whole_class 5 1) shared.shape [] ≡ the_lock 5 1 ∷ the_lock 5 2 ∷ []
  listed_named = refl

  listed_many : most_locks shared.shape (path_at 0 [] 0 ∷ whole_class 5 1 ∷ global_path 6 ∷ []) ≡ 4
  listed_many = refl

  -- ---- arrays: a[a[0]] = n;

  abbrev pub arrays : Section
  arrays = record {
    name = name;
    parameters = 0;
    locals = none;
    result_type = None;
    listed = none;
    result = None;
    body = vec (record { start = 10; action = SetElement 0 (Element' 12 0 boxed (Number (pos 0))) (GlobalExpr 20 0) } ∷ []) (omega arith);
  }

  arrays_accesses : accesses arrays ≡ access 10 (element 0) ∷ access 12 (element 0) ∷ access 20 (global 0) ∷ []
  arrays_accesses = refl

  -- ---- accesses with one start, the shorter first: a.next.v, of nodes

  longer : map (lock_path nodes hand_over_hand) (in_expr (Place (a_path 5 0 (step.Field 0 1 ∷ step.Field 0 0 ∷ []) (omega arith)))) ≡ Some (path_at 0 [] 0) ∷ None ∷ []
  longer = refl

  -- ---- an owner named by a `where`: var c: ref N = null; let n: ref N = c where owner == k; n.v = 1; let m: ref N = n; m.v = 2;

  abbrev owned_walk : LocalKind → Section
  owned_walk kind = record {
    name = name;
    parameters = 1;
    locals = vec (parameter (Reference 0) ∷ record { name = name; kind = kind; value_type = Reference 1 } ∷ a_let (Reference 1) ∷ a_let (Reference 1) ∷ []) (omega arith);
    result_type = None;
    listed = none;
    result = None;
    body = vec (record { start = 10; action = Bind 1 Null }
        ∷ record { start = 20; action = Bind 2 (Owned' boxed (lone 24 1) 1 0 28 0) }
        ∷ record { start = 30; action = SetField (a_path 30 2 [] (omega arith)) 1 0 (Number (pos 1)) }
        ∷ record { start = 40; action = Bind 3 (lone 44 2) }
        ∷ record { start = 50; action = SetField (a_path 50 3 [] (omega arith)) 1 0 (Number (pos 2)) }
        ∷ record { start = 60; action = SetField (a_path 60 1 [] (omega arith)) 1 0 (Number (pos 3)) } ∷ []) (omega arith);
  }

  -- both accesses after the `where` have the parameter's lock, also over an alias; the one at the `var` has none
  owned_walk_paths : map (lock_path shared (owned_walk Var)) (accesses (owned_walk Var)) ≡ Some (path_at 0 [] 0) ∷ Some (path_at 0 [] 0) ∷ None ∷ []
  owned_walk_paths = refl

  -- where what is tested is a `let`, the accesses after the `where` still have the owner that it names
  owned_let_paths : map (lock_path shared (owned_walk Let)) (accesses (owned_walk Let)) ≡ Some (path_at 0 [] 0) ∷ Some (path_at 0 [] 0) ∷ Some (path_at 1 (0 ∷ []) 0) ∷ []
  owned_let_paths = refl

  -- object 1 is of pool N and its owner is object 0: the test passes for 0 and for a null reference, and traps for a null owner
  owned_values : map (λ (o : Option ℕ). owned shared.shape (Ref (Some 1)) 0 (Ref o)) (Some 0 ∷ None ∷ []) ≡ Ok (Ref (Some 1)) ∷ Err (Failed NotOwned) ∷ []
  owned_values = refl

  owned_null : owned shared.shape (Ref None) 0 (Ref None) ≡ Ok (Ref None)
  owned_null = refl
