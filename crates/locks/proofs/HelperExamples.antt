-- Worked sections that call helpers, written by hand, and what the definitions compute for them. No proof depends on these:
-- they show the definitions at work.
use Rattle.std.specs.Prelude.{◌+◌, ◌≡◌, ℕ, ◌<◌, ◌^◌, length, List, [], ◌∷◌, Some, None, pos}
use Rattle.std.specs.Prelude.{String, ◌++◌}
use Rattle.std.proofs.Common.{refl, Vec, Global, arith, Box}
use Rattle.std.specs.List.{Contains}
use Rattle.core_lang.specs.declared.value.Value.TheVariants.{Int}
use Rattle.core_lang.specs.declared.value.ValueType.{ValueType}
use Rattle.core_lang.specs.declared.value.ValueType.TheVariants.{Integer}
use Rattle.core_lang.specs.declared.value.Trap.TheVariants.{ZeroDivisor}
use Rattle.core_lang.specs.declared.value.Outcome.TheVariants.{Ends, Returns, Traps}
use Rattle.core_lang.specs.declared.tree.Comparison.TheVariants.{Greater}
use Rattle.core_lang.specs.declared.tree.Operator.TheVariants.{Div}
use Rattle.core_lang.specs.declared.tree.Stmt.{Stmt}
use Rattle.core_lang.specs.declared.tree.Path.{Path}
use Rattle.core_lang.specs.declared.tree.FieldStep.{FieldStep}
use Rattle.core_lang.specs.declared.tree.Expr.{Expr, Number, Global as GlobalExpr}
use Rattle.core_lang.specs.declared.tree.Expr.{Chain', end_of-Operation, more_of-Operation}
use Rattle.core_lang.specs.declared.tree.Condition.{Compare}
use Rattle.core_lang.specs.declared.tree.Action.{Bind, SetGlobal, Call, Print}
use Rattle.core_lang.specs.declared.tree.Action.{While', end_of-Stmt, more_of-Stmt}
use Rattle.core_lang.specs.declared.tree.Local.{Local}
use Rattle.core_lang.specs.declared.tree.Section.{Section}
use Rattle.core_lang.specs.declared.shape.Shape.{Shape}
use Rattle.core_lang.specs.Whole.{Over, Beyond_turns, Gone_astray, run_of}
use Rattle.core_lang.specs.Expansion.{Pair, pair, At, RenamesPath, parameters_at, entered, Writes, HelpersWritten}
use Rattle.core_lang.specs.Expansion.{IsWrittenOut}
use Rattle.locks.proofs.Examples as examples

module _ (alloc : Global) (name : String Global) where
  abbrev vec : {X : Type 0} (xs : List X) → length xs < 2 ^ 63 → Vec X Global
  vec xs small = examples.vec alloc name xs small

  abbrev one : Vec (Unit {0}) Global
  one = examples.one alloc name

  abbrev boxed : Box (Unit {0}) Global
  boxed = examples.boxed alloc name

  abbrev plus : Expr → Expr → Expr
  plus a b = examples.plus alloc name a b

  abbrev a_path : ℕ → ℕ → (fields : List FieldStep) → length fields < 2 ^ 63 → Path
  a_path start local fields small = examples.a_path alloc name start local fields small

  abbrev lone : ℕ → ℕ → Expr
  lone start local = examples.lone alloc name start local

  abbrev parameter : ValueType → Local
  parameter t = examples.parameter alloc name t

  abbrev none : {X : Type 0} → Vec X Global
  none = examples.none alloc name

  abbrev a_let : ValueType → Local
  a_let t = examples.a_let alloc name t

  abbrev no_shape : Shape
  no_shape = examples.no_shape alloc name

  -- ---- helpers: call add(int k) : int { n = n + k; return n; }   atomic f() : int { let a: int = call add(2); call add(a + 1); return n; }

  abbrev n_at : ℕ → Expr
  n_at start = GlobalExpr start 0

  abbrev add : Section
  add = record {
    name = name;
    parameters = 1;
    locals = vec (parameter Integer ∷ []) (omega arith);
    result_type = Some Integer;
    listed = none;
    body = vec (record { start = 10; action = SetGlobal 0 (plus (n_at 14) (lone 18 0)) } ∷ []) (omega arith);
    result = Some (record { start = 20; value = n_at 27 });
  }

  abbrev helping : Shape
  helping = record { arrays = none; pools = none; objects = none; finals = none; helpers = vec (add ∷ []) (omega arith) }

  abbrev calling : Section
  calling = record {
    name = name;
    parameters = 0;
    locals = vec (a_let Integer ∷ []) (omega arith);
    result_type = Some Integer;
    listed = none;
    body = vec (record { start = 30; action = Call 0 (vec (Number (pos 2) ∷ []) (omega arith)) (Some 0) }
        ∷ record { start = 40; action = Call 0 (vec (plus (lone 44 0) (Number (pos 1)) ∷ []) (omega arith)) None } ∷ []) (omega arith);
    result = Some (record { start = 50; value = n_at 57 });
  }

  -- 2, and then 3 more
  calling_runs : run_of calling helping 0 [] (Int (pos 0) ∷ []) ≡ Over (record { outcome = Returns (Int (pos 5)); prints = []; heap = Int (pos 5) ∷ [] })
  calling_runs = refl

  -- the same with `add` written out: k, a, k and a hidden local
  abbrev written_out : Section
  written_out = record {
    name = name;
    parameters = 0;
    locals = vec (a_let Integer ∷ a_let Integer ∷ a_let Integer ∷ a_let Integer ∷ []) (omega arith);
    result_type = Some Integer;
    listed = none;
    body = vec (record { start = 30; action = Bind 0 (Number (pos 2)) }
        ∷ record { start = 10; action = SetGlobal 0 (plus (n_at 14) (lone 18 0)) }
        ∷ record { start = 20; action = Bind 1 (n_at 27) }
        ∷ record { start = 40; action = Bind 2 (plus (lone 44 1) (Number (pos 1))) }
        ∷ record { start = 10; action = SetGlobal 0 (plus (n_at 14) (lone 18 2)) }
        ∷ record { start = 20; action = Bind 3 (n_at 27) } ∷ []) (omega arith);
    result = Some (record { start = 50; value = n_at 57 });
  }

  written_out_runs : run_of written_out no_shape 0 [] (Int (pos 0) ∷ []) ≡ Over (record { outcome = Returns (Int (pos 5)); prints = []; heap = Int (pos 5) ∷ [] })
  written_out_runs = refl

  abbrev lone_renamed : (scope : List Pair) (start k j : ℕ) → Contains scope (pair k j) →
      RenamesPath scope (a_path start k [] (omega arith)) (a_path start j [] (omega arith))
  lone_renamed scope start k j c = record { start = refl; local = c; fields = refl; in_parentheses = refl }

  -- the body of `add`, with its parameter at a number
  abbrev added : ℕ → List Stmt
  added j = record { start = 10; action = SetGlobal 0 (plus (n_at 14) (lone 18 j)) } ∷ []

  add_written : (j : ℕ) →
      HelpersWritten helping 8 0 1 j (added j) (Some (record { start = 20; value = n_at 27 })) (j + 1)
  add_written j =
      let here : Contains (parameters_at 1 j) (pair 0 j) = let z : j + 0 ≡ j = omega arith in (0, omega arith, λ i. pair 0 (z i)) in (
        add,
        refl,
        refl,
        (
          entered 1 j,
          (added j, [], entered 1 j, (plus (n_at 14) (lone 18 j), ((refl, refl), (refl, lone_renamed (parameters_at 1 j) 18 0 j here, tt)), refl, refl), (refl, refl), refl),
          (refl, (refl, refl)),
          refl,
          refl,
        ),
      )

  abbrev behind_first : At
  behind_first = record { scope = pair 0 1 ∷ []; own = 1; fresh = 2 }

  abbrev behind_second : At
  behind_second = record { scope = pair 0 1 ∷ []; own = 1; fresh = 4 }

  abbrev first_call : List Stmt
  first_call = record { start = 30; action = Bind 0 (Number (pos 2)) } ∷ (added 0 ++ record { start = 20; action = Bind 1 (n_at 27) } ∷ [])

  abbrev second_call : List Stmt
  second_call = record { start = 40; action = Bind 2 (plus (lone 44 1) (Number (pos 1))) } ∷ (added 2 ++ record { start = 20; action = Bind 3 (n_at 27) } ∷ [])

  first_written : Writes (HelpersWritten helping 8) (Call 0 (vec (Number (pos 2) ∷ []) (omega arith)) (Some 0)) 30 (entered 0 0) first_call behind_first
  first_written = (
    record { start = 30; action = Bind 0 (Number (pos 2)) } ∷ [],
    added 0,
    record { start = 20; action = Bind 1 (n_at 27) } ∷ [],
    Some (record { start = 20; value = n_at 27 }),
    1,
    (Number (pos 2), [], refl, refl, refl),
    add_written 0,
    (refl, refl, refl),
    refl,
  )

  second_written : Writes (HelpersWritten helping 8) (Call 0 (vec (plus (lone 44 0) (Number (pos 1)) ∷ []) (omega arith)) None) 40 behind_first second_call behind_second
  second_written = (
    record { start = 40; action = Bind 2 (plus (lone 44 1) (Number (pos 1))) } ∷ [],
    added 2,
    record { start = 20; action = Bind 3 (n_at 27) } ∷ [],
    Some (record { start = 20; value = n_at 27 }),
    3,
    (plus (lone 44 1) (Number (pos 1)), [], (lone_renamed (pair 0 1 ∷ []) 44 0 1 (0, omega arith, refl), (refl, refl, tt)), refl, refl),
    add_written 2,
    (refl, refl),
    refl,
  )

  -- it is what the definition says
  calling_written_out : IsWrittenOut helping calling written_out
  calling_written_out = record {
    parameters = refl;
    result_type = refl;
    body = (
      behind_second,
      (first_call, second_call, behind_first, first_written, (second_call, [], behind_second, second_written, (refl, refl), refl), refl),
      (refl, (refl, refl)),
      refl,
      refl,
    );
  }

  -- ---- a call in a loop: while (3 > n) { call add(1); }

  abbrev call_in_loop : Section
  call_in_loop = record {
    name = name;
    parameters = 0;
    locals = none;
    result_type = None;
    listed = none;
    result = None;
    body = vec (record {
      start = 10;
      action = While' (Compare Greater (Number (pos 3)) (n_at 20)) one (more_of-Stmt 30 (Call 0 (vec (Number (pos 1) ∷ []) (omega arith)) None) end_of-Stmt);
    } ∷ []) (omega arith);
  }

  call_in_loop_settles : run_of call_in_loop helping 3 [] (Int (pos 0) ∷ []) ≡ Over (record { outcome = Ends; prints = []; heap = Int (pos 3) ∷ [] })
  call_in_loop_settles = refl

  call_in_loop_goes_on : run_of call_in_loop helping 2 [] (Int (pos 0) ∷ []) ≡ Beyond_turns
  call_in_loop_goes_on = refl

  -- ---- a trap in a helper that another helper calls: call div(int k) { print 7; n = 8; n = n / k; }   call twice(int k) { print 6; call div(k); n = 9; }

  abbrev div : Section
  div = record {
    name = name;
    parameters = 1;
    locals = vec (parameter Integer ∷ []) (omega arith);
    result_type = None;
    listed = none;
    result = None;
    body = vec (record { start = 10; action = Print (Number (pos 7)) }
        ∷ record { start = 11; action = SetGlobal 0 (Number (pos 8)) }
        ∷ record { start = 12; action = SetGlobal 0 (Chain' boxed (n_at 14) one (more_of-Operation Div (lone 18 0) end_of-Operation)) } ∷ []) (omega arith);
  }

  abbrev twice : Section
  twice = record {
    name = name;
    parameters = 1;
    locals = vec (parameter Integer ∷ []) (omega arith);
    result_type = None;
    listed = none;
    result = None;
    body = vec (record { start = 10; action = Print (Number (pos 6)) }
        ∷ record { start = 11; action = Call 0 (vec (lone 18 0 ∷ []) (omega arith)) None }
        ∷ record { start = 12; action = SetGlobal 0 (Number (pos 9)) } ∷ []) (omega arith);
  }

  abbrev dividing : Shape
  dividing = record { arrays = none; pools = none; objects = none; finals = none; helpers = vec (div ∷ twice ∷ []) (omega arith) }

  abbrev calls_twice : ℕ → Section
  calls_twice k = record {
    name = name;
    parameters = 0;
    locals = none;
    result_type = None;
    listed = none;
    result = None;
    body = vec (record { start = 10; action = Print (Number (pos 5)) } ∷ record { start = 11; action = Call 1 (vec (Number (pos k) ∷ []) (omega arith)) None } ∷ []) (omega arith);
  }

  -- what was written and printed before the trap stays; the rest of both helpers isn't run
  trap_inside : run_of (calls_twice 0) dividing 0 [] (Int (pos 3) ∷ []) ≡
      Over (record { outcome = Traps ZeroDivisor; prints = pos 5 ∷ pos 6 ∷ pos 7 ∷ []; heap = Int (pos 8) ∷ [] })
  trap_inside = refl

  no_trap_inside : run_of (calls_twice 2) dividing 0 [] (Int (pos 3) ∷ []) ≡
      Over (record { outcome = Ends; prints = pos 5 ∷ pos 6 ∷ pos 7 ∷ []; heap = Int (pos 9) ∷ [] })
  no_trap_inside = refl

  -- ---- recursion, which no well-formed program has, goes astray

  abbrev endless : Section
  endless = record {
    name = name;
    parameters = 0;
    locals = none;
    result_type = None;
    listed = none;
    result = None;
    body = vec (record { start = 10; action = Call 0 none None } ∷ []) (omega arith);
  }

  abbrev recursive : Shape
  recursive = record { arrays = none; pools = none; objects = none; finals = none; helpers = vec (endless ∷ []) (omega arith) }

  recursion_goes_astray : run_of endless recursive 0 [] [] ≡ Gone_astray
  recursion_goes_astray = refl
