-- The code of expressions, conditions and statements without blocks has its cases if the cells that their accesses
-- reach are seen.
use Rattle.std.proofs.Math.Nat.{le-max_left, le-max_right}
use Rattle.std.proofs.Common.{◌≡◌, ℕ, suc, ◌+◌, ◌≤◌, List, [], ◌∷◌, ◌++◌, length, Option, Some, None, Result, Ok, Err}
use Rattle.std.proofs.Common.{Bool, true, false, ℤ, pos, refl, sym, ap, ◌∙◌, subst, arith, length-append}
use Rattle.std.specs.Prelude.{slice_get, slice_set, nat_lt, if◌then◌else◌, not}
use Rattle.core_lang.specs.declared.value.Value.{Value}
use Rattle.core_lang.specs.declared.value.Value.TheVariants.{Int, Ref}
use Rattle.core_lang.specs.declared.value.Failure.{Failure}
use Rattle.core_lang.specs.declared.value.Failure.TheVariants.{Trap, Wrong}
use Rattle.core_lang.specs.declared.value.Outcome.{Outcome}
use Rattle.core_lang.specs.declared.tree.FieldStep.{FieldStep}
use Rattle.core_lang.specs.declared.tree.FieldStep.TheVariants.{Final, Field}
use Rattle.core_lang.specs.declared.tree.Path.{Path}
use Rattle.core_lang.specs.declared.tree.Expr.{Expr, Number, Null, Place, Global, Element', Member', Negate', Owned'}
use Rattle.core_lang.specs.declared.tree.Expr.{Chain', Row_of-Operation, end_of-Operation, more_of-Operation}
use Rattle.core_lang.specs.declared.tree.Condition.{Condition, Compare, Not', And', Or', Row_of-Condition}
use Rattle.core_lang.specs.declared.tree.Condition.{end_of-Condition, more_of-Condition}
use Rattle.core_lang.specs.declared.tree.Action.{Action, Bind, SetLocal, SetGlobal, SetElement, SetField, Call, Print}
use Rattle.core_lang.specs.declared.tree.Action.{If', IfElse', While'}
use Rattle.core_lang.specs.declared.value.Outcome.TheVariants as out
use Rattle.core_lang.specs.declared.value.Trap.TheVariants.{TooManyPrints}
use Rattle.core_lang.specs.declared.shape.Shape.{Shape}
use Rattle.core_lang.specs.Arithmetic.{on_values, negated, compared}
use Rattle.core_lang.specs.Cells.{with, found, element_cell, member_of, field_cell, final_value, owned, not_null}
use Rattle.core_lang.specs.Cells.{read, step_value}
use Rattle.core_lang.specs.Meaning.{State, GoesOn, Traps, given, written, stored, effect_of, along, place_of, joined}
use Rattle.core_lang.specs.Meaning.{value_of, chained, and_then, or_else, truth_of, all_true, any_true}
use Rattle.core_lang.specs.Meaning as meaning
use Rattle.locks.specs.Accesses.{Access, in_path, in_expr, in_operations, in_condition, in_conditions, in_action}
use Rattle.locks.specs.Accesses as accesses
use Rattle.locks.specs.Working.Reached.{Reaches, to_global, to_element, to_field}
use Rattle.code.specs.declared.instr.Instr.{Instr}
use Rattle.code.specs.declared.instr.Instr.TheVariants.{PushNumber, PushNull, GetLocal, PutLocal, LoadGlobal}
use Rattle.code.specs.declared.instr.Instr.TheVariants.{PutGlobal, LoadElement, Bound, PutElement, GetMember}
use Rattle.code.specs.declared.instr.Instr.TheVariants.{LoadFinal, LoadField, NonNull, PutField, Where, NegateTop}
use Rattle.code.specs.declared.instr.Instr.TheVariants.{NotTop, Operate, Test, Jump, JumpIfFalse, JumpIfTrue}
use Rattle.code.specs.declared.instr.Instr.TheVariants.{PrintTop, Return}
use Rattle.code.specs.Machine.{Machine, Effect, truth, printed, act, or_trap, if_there, loads, stores, advances}
use Rattle.code.specs.Lowering.{fields_code, path_code, expr_code, chain_code, test_code, all_code, any_code}
use Rattle.code.specs.Needs.{expr_need, chain_need, test_need, tests_need, stmt_need}
use Rattle.code.specs.Working.Seen.{IsMemory, Shows, IsSeen}
use Rattle.code.specs.Working.Spots.{HasAt}
use Rattle.code.specs.Working.Ahead.{Safe, Goes, Steps}
use Rattle.code.proofs.points.Places.{has_front, has_back}
use Rattle.code.proofs.points.Results.{Gives, Leads, gives-with, gives-given, gives-more, gives-noted}
use Rattle.code.proofs.points.Taken.{steps, takes, goes-trap, goes-ok}
use Rattle.code.specs.Theory.Safety.{safe}
use Rattle.code.proofs.points.Covered.{shows-set, seen-set, CoversEach, covers-front, covers-back, with-with}
use Rattle.code.proofs.points.Covered.{along-append}

-- a statement's own code, without what is acquired before it; of an `if` or a `while` nothing
abbrev pub own_code : Action → List Instr
own_code (Bind k e) = expr_code e ++ PutLocal k ∷ []
own_code (SetLocal k e) = expr_code e ++ PutLocal k ∷ []
own_code (SetGlobal cell e) = expr_code e ++ PutGlobal cell ∷ []
own_code (SetElement array i e) = expr_code i ++ (Bound array ∷ (expr_code e ++ PutElement array ∷ []))
own_code (SetField path structure f e) = path_code path ++ (NonNull ∷ (expr_code e ++ PutField f structure ∷ []))
own_code (Call f es r) = PushNull ∷ (PrintTop ∷ [])
own_code (Print e) = expr_code e ++ PrintTop ∷ []
own_code _ = []

-- it has no blocks, and calls nothing
abbrev pub IsSimple : Action → Type 0
IsSimple (If' c m block) = ⊥
IsSimple (IfElse' c m block k otherwise) = ⊥
IsSimple (While' c m body) = ⊥
IsSimple (Call f es r) = ⊥
IsSimple _ = Unit {0}

-- a machine
abbrev pub machine : {M : Type 0} → ℕ → List Value → List Value → M → List ℤ → Machine M
machine place stack locals memory prints = record { place = place; stack = stack; locals = locals; memory = memory; prints = prints }

module _ {M : Type 0} (load : M → ℕ → Option (Value × M)) (store : M → ℕ → Value → Option M) (view : M → ℕ → Option Value)
    (is : IsMemory load store view) (shape : Shape) (code : List Instr) (F : Outcome → Type 0) (Q : Machine M → Type 0) (room : ℕ)
    (locals heap : List Value) (prints : List ℤ) (seen : ℕ → Option Value) where
  abbrev GoesHere : Effect M → Type 0
  GoesHere = Goes load store shape code F Q room

  abbrev SafeHere : Machine M → Type 0
  SafeHere = Safe load store shape code F Q room

  abbrev StepsHere : Machine M → Type 0
  StepsHere = Steps load store shape code F Q room

  -- a machine with these locals and prints
  abbrev here : ℕ → List Value → M → Machine M
  here place stack memory = machine place stack locals memory prints

  abbrev CoveredHere : List Access → Type 0
  CoveredHere = CoversEach shape locals heap seen

  front_covered : (xs ys : List Access) → CoveredHere (xs ++ ys) → CoveredHere xs
  front_covered = covers-front shape locals heap seen

  back_covered : (xs ys : List Access) → CoveredHere (xs ++ ys) → CoveredHere ys
  back_covered = covers-back shape locals heap seen

  safe_here : (m : Machine M) → StepsHere m → SafeHere m
  safe_here = safe load store shape code room F Q

  step : (i : Instr) (m : Machine M) → length m.stack ≤ room → slice_get code m.place ≡ Some i →
      GoesHere (act load store shape (Some i) m) → StepsHere m
  step = steps load store shape code F Q room

  take : (i : Instr) (m : Machine M) → length m.stack ≤ room → slice_get code m.place ≡ Some i →
      GoesHere (act load store shape (Some i) m) → SafeHere m
  take = takes load store shape code F Q room

  on_trap : {A : Type 0} (r : Result A Failure) (P : A → Type 0) (go : A → Effect M) → Gives F r P →
      ((a : A) → r ≡ Ok a → P a → GoesHere (go a)) →
      GoesHere (or_trap r go)
  on_trap = goes-trap load store shape code F Q room

  on_ok : {A : Type 0} (r : Result A Failure) (a : A) (go : A → Effect M) → r ≡ Ok a → GoesHere (go a) →
      GoesHere (or_trap r go)
  on_ok = goes-ok load store shape code F Q room

  -- nothing has been written since
  abbrev pub Sees : M → Type 0
  Sees memory = (c : ℕ) → view memory c ≡ seen c

  -- from a place on, with this stack
  abbrev pub From : ℕ → List Value → Type 0
  From place stack = (memory : M) → Sees memory → StepsHere (here place stack memory)

  -- the same, but perhaps nothing is left to do
  abbrev pub Safely : ℕ → List Value → Type 0
  Safely place stack = (memory : M) → Sees memory → SafeHere (here place stack memory)

  -- with a value on the stack
  abbrev pub Then : ℕ → List Value → Value → Type 0
  Then place stack v = Safely place (v ∷ stack)

  safely : (place : ℕ) (stack : List Value) → From place stack → Safely place stack
  safely place stack f memory sees = safe_here (here place stack memory) (f memory sees)

  -- a load of a cell that is seen
  load_goes : (cell place : ℕ) (old stack : List Value) (o : Option Value) (P : Value → Type 0) (memory : M) →
      slice_get heap cell ≡ o → Sees memory →
      ((v : Value) → slice_get heap cell ≡ Some v → seen cell ≡ Some v) → Gives F (found o) P →
      ((v : Value) → slice_get heap cell ≡ Some v → P v → Then (place + 1) stack v) →
      GoesHere (loads load store shape (here place old memory) cell stack)
  load_goes cell place old stack None P memory e s c g k = absurd g
  load_goes cell place old stack (Some v) P memory e s c g k =
      let l = is.loads memory cell v (s cell ∙ c v e) in
      subst (λ x. GoesHere (if_there x (λ r. advances (record (here place old memory) { memory = r.1 }) (r.0 ∷ stack)))) (sym l.1)
      (k v e g l.0 (λ c. l.2 c ∙ s c))

  -- the value at the end of the fields so far
  abbrev reached : ℕ → List FieldStep → Result Value Failure
  reached local base = with (found (slice_get locals local)) (λ v. along shape heap v base)

  reached-step : (local : ℕ) (base : List FieldStep) (step : FieldStep) (v : Value) → reached local base ≡ Ok v →
      reached local (base ++ step ∷ []) ≡ step_value shape heap v step
  reached-step local base step v e = by (found (slice_get locals local)) e
    where
      by : (r : Result Value Failure) → with r (λ w. along shape heap w base) ≡ Ok v →
          with r (λ w. along shape heap w (base ++ step ∷ [])) ≡ step_value shape heap v step
      by (Ok w) e = along-append shape heap base step w ∙ ap (λ r. with r (λ o. step_value shape heap o step)) e
      by (Err f) e = cc

  reaches : (local : ℕ) (base : List FieldStep) (s f : ℕ) (v : Value) (cell : ℕ) → reached local base ≡ Ok v →
      field_cell shape v f ≡ Ok cell →
      Reaches shape locals heap (accesses.field local base s f) cell
  reaches local base s f v cell e h =
      to_field (sym (with-with (found (slice_get locals local)) (λ w. along shape heap w base) (λ o. field_cell shape o f))
      ∙ ap (λ r. with r (λ o. field_cell shape o f)) e ∙ h)

  -- an instruction on the value on top
  top_safe : (i : Instr) (r : Result Value Failure) (place : ℕ) (stack : List Value) (top : Value) →
      length (top ∷ stack) ≤ room →
      slice_get code place ≡ Some i →
      ((memory : M) → act load store shape (Some i) (here place (top ∷ stack) memory) ≡ or_trap r (λ w. advances (here place (top ∷ stack) memory) (w ∷ stack))) →
      Gives F r (λ w. Then (place + 1) stack w) → Safely place (top ∷ stack)
  top_safe i r place stack top fit at op g memory s =
      take i (here place (top ∷ stack) memory) fit at
      (subst (GoesHere) (sym (op memory))
      (on_trap r (Then (place + 1) stack) _ g (λ w e k. k memory s)))

  fields_safe : (start local : ℕ) (fs base : List FieldStep) (v : Value) (place : ℕ) (stack : List Value) →
      length (v ∷ stack) ≤ room →
      HasAt code place (fields_code fs) →
      CoveredHere (accesses.along start local base fs) → reached local base ≡ Ok v →
      Gives F (along shape heap v fs) (Then (place + length (fields_code fs)) stack) → Then place stack v
  fields_safe start local [] base v place stack fit has c e g =
      let p : place + 0 ≡ place = omega arith in
      subst (λ n. Then n stack v) p g
  fields_safe start local (Final s f ∷ fs) base v place stack fit has c e g =
      let p : place + suc (length (fields_code fs)) ≡ place + 1 + length (fields_code fs) = omega arith in
      λ memory sees. take (LoadFinal f s) (here place (v ∷ stack) memory) fit has.0
      (on_trap (final_value shape v f) _ _
      (gives-with F (final_value shape v f) (λ w. along shape heap w fs) (Then (place + suc (length (fields_code fs))) stack) g)
      (λ w e' k. fields_safe start local fs (base ++ Final s f ∷ []) w (place + 1) stack fit has.1 c (reached-step local base (Final s f) v e ∙ e')
      (subst (λ n. Gives F (along shape heap w fs) (Then n stack)) p k) memory sees))
  fields_safe start local (Field s f ∷ fs) base v place stack fit has c e g =
      let p : place + suc (length (fields_code fs)) ≡ place + 1 + length (fields_code fs) = omega arith in
      let end = Then (place + suc (length (fields_code fs))) stack in
      λ memory sees. take (LoadField f s) (here place (v ∷ stack) memory) fit has.0
      (on_trap (field_cell shape v f) _ _
      (gives-with F (field_cell shape v f) (λ cell. with (read heap cell) (λ w. along shape heap w fs)) end
      (subst (λ r. Gives F r end) (with-with (field_cell shape v f) (read heap) (λ w. along shape heap w fs)) g))
      (λ cell e' k. load_goes cell place (v ∷ stack) stack (slice_get heap cell) (λ w. Gives F (along shape heap w fs) end) memory refl sees
      (λ w. c.0 cell w (reaches local base s f v cell e e'))
      (gives-with F (read heap cell) (λ w. along shape heap w fs) end k)
      (λ w er kk. fields_safe start local fs (base ++ Field s f ∷ []) w (place + 1) stack fit has.1 c.1
      (reached-step local base (Field s f) v e ∙ ap (λ r. with r (read heap)) e' ∙ ap found er)
      (subst (λ n. Gives F (along shape heap w fs) (Then n stack)) p kk))))

  path_safe : (path : Path) (place : ℕ) (stack : List Value) → length stack + 1 ≤ room →
      HasAt code place (path_code path) → CoveredHere (in_path path) →
      Gives F (place_of path shape locals heap) (Then (place + length (path_code path)) stack) → From place stack
  path_safe path place stack fit has c g memory sees =
      let fs = path.fields.items in
      let p : place + suc (length (fields_code fs)) ≡ place + 1 + length (fields_code fs) = omega arith in
      step (GetLocal path.local) (here place stack memory) (omega (arith, fit)) has.0
      (on_trap (found (slice_get locals path.local)) _ _
      (gives-with F (found (slice_get locals path.local)) (λ v. along shape heap v fs) (Then (place + suc (length (fields_code fs))) stack) g)
      (λ v e k. fields_safe path.start path.local fs [] v (place + 1) stack (omega (arith, fit)) has.1 c (ap (λ r. with r (λ v. along shape heap v [])) e)
      (subst (λ n. Gives F (along shape heap v fs) (Then n stack)) p k) memory sees))

  chained-Err : {m : _} (row : Row_of-Operation m) (f : Failure) → chained row shape locals heap (Err f) ≡ Err f
  chained-Err end_of-Operation f = refl
  chained-Err (more_of-Operation o e rest) f = chained-Err rest f

  gives-chained : {m : _} (row : Row_of-Operation m) (left : Result Value Failure) (P : Value → Type 0) →
      Gives F (chained row shape locals heap left) P → Gives F left (λ a. Gives F (chained row shape locals heap (Ok a)) P)
  gives-chained row (Ok a) P g = g
  gives-chained row (Err (Trap t)) P g = subst (λ r. Gives F r P) (chained-Err row (Trap t)) g
  gives-chained row (Err Wrong) P g = subst (λ r. Gives F r P) (chained-Err row Wrong) g

  -- each expression needs at least one place on the stack
  needs : (e : Expr) → 1 ≤ expr_need e
  needs (Number n) = omega arith
  needs Null = omega arith
  needs (Place path) = omega arith
  needs (Global start cell) = omega arith
  needs (Element' start array p index) = needs index
  needs (Member' pool p index) = needs index
  needs (Negate' p e) = needs e
  needs (Owned' p e s f start k) = needs e
  needs (Chain' p first m rest) = let a = needs first in let b = le-max_left (expr_need first) (chain_need rest) in omega (arith, a, b)

  test_needs : (c : Condition) → 1 ≤ test_need c
  test_needs (Compare comparison a b) = let n = needs a in let l = le-max_left (expr_need a) (1 + expr_need b) in omega (arith, n, l)
  test_needs (Not' p c) = test_needs c
  test_needs (And' m before p last) = let n = test_needs last in let l = le-max_right (tests_need before) (test_need last) in omega (arith, n, l)
  test_needs (Or' m before p last) = let n = test_needs last in let l = le-max_right (tests_need before) (test_need last) in omega (arith, n, l)

  mutual
    pub expr_safe : (e : Expr) (place : ℕ) (stack : List Value) → length stack + expr_need e ≤ room →
        HasAt code place (expr_code e) → CoveredHere (in_expr e) →
        Gives F (value_of e shape locals heap) (Then (place + length (expr_code e)) stack) → From place stack
    expr_safe (Number n) place stack fit has c g =
        λ memory sees. step (PushNumber n) (here place stack memory) (omega (arith, fit)) has.0 (g memory sees)
    expr_safe Null place stack fit has c g =
        λ memory sees. step PushNull (here place stack memory) (omega (arith, fit)) has.0 (g memory sees)
    expr_safe (Place path) place stack fit has c g = path_safe path place stack fit has c g
    expr_safe (Global start cell) place stack fit has c g =
        λ memory sees. step (LoadGlobal cell) (here place stack memory) (omega (arith, fit)) has.0
        (load_goes cell place stack stack (slice_get heap cell) (Then (place + 1) stack) memory refl sees (λ v. c.0 cell v to_global) g (λ v e k. k))
    expr_safe (Element' start array p index) place stack fit has c g =
        let n = needs index in
        let ci = expr_code index in
        let end : place + length (ci ++ LoadElement array ∷ []) ≡ place + length ci + 1 = omega (arith, length-append ci (LoadElement array ∷ [])) in
        expr_safe index place stack fit (has_front code place ci _ has) c.1
        (gives-more F (value_of index shape locals heap) _ _
        (λ i k memory sees. take (LoadElement array) (here (place + length ci) (i ∷ stack) memory) (omega (arith, fit, n)) (has_back code place ci _ has).0
        (on_trap (element_cell shape array i) _ _
        (gives-with F (element_cell shape array i) (read heap) (Then (place + length ci + 1) stack) k)
        (λ cell e k'. load_goes cell (place + length ci) (i ∷ stack) stack (slice_get heap cell) (Then (place + length ci + 1) stack) memory refl sees
        (λ v. c.0 cell v (to_element i e)) k' (λ v e k. k))))
        (gives-with F (value_of index shape locals heap) (λ i. with (element_cell shape array i) (read heap)) (Then (place + length ci + 1) stack)
        (subst (λ n. Gives F (value_of (Element' start array p index) shape locals heap) (Then n stack)) end g)))
    expr_safe (Member' pool p index) place stack fit has c g =
        let n = needs index in
        let ci = expr_code index in
        let end : place + length (ci ++ GetMember pool ∷ []) ≡ place + length ci + 1 = omega (arith, length-append ci (GetMember pool ∷ [])) in
        expr_safe index place stack fit (has_front code place ci _ has) c
        (gives-more F (value_of index shape locals heap) _ _
        (λ i k. top_safe (GetMember pool) (member_of shape pool i) (place + length ci) stack i (omega (arith, fit, n))
        (has_back code place ci _ has).0 (λ memory. refl) k)
        (gives-with F (value_of index shape locals heap) (member_of shape pool) (Then (place + length ci + 1) stack)
        (subst (λ n. Gives F (value_of (Member' pool p index) shape locals heap) (Then n stack)) end g)))
    expr_safe (Owned' p e structure final start local) place stack fit has c g =
        let n = needs e in
        let ce = expr_code e in
        let test = λ (v : Value). with (found (slice_get locals local)) (λ (owner : Value). owned shape v final owner) in
        let end : place + length (ce ++ Where final structure local ∷ []) ≡ place + length ce + 1 = omega (arith, length-append ce (Where final structure local ∷ [])) in
        expr_safe e place stack fit (has_front code place ce _ has) c
        (gives-more F (value_of e shape locals heap) _ _
        (λ i k. top_safe (Where final structure local) (test i) (place + length ce) stack i (omega (arith, fit, n)) (has_back code place ce _ has).0 (λ memory. refl) k)
        (gives-with F (value_of e shape locals heap) test (Then (place + length ce + 1) stack)
        (subst (λ n. Gives F (value_of (Owned' p e structure final start local) shape locals heap) (Then n stack)) end g)))
    expr_safe (Negate' p e) place stack fit has c g =
        let n = needs e in
        let ce = expr_code e in
        let end : place + length (ce ++ NegateTop ∷ []) ≡ place + length ce + 1 = omega (arith, length-append ce (NegateTop ∷ [])) in
        expr_safe e place stack fit (has_front code place ce _ has) c
        (gives-more F (value_of e shape locals heap) _ _
        (λ i k. top_safe NegateTop (negated i) (place + length ce) stack i (omega (arith, fit, n)) (has_back code place ce _ has).0 (λ memory. refl) k)
        (gives-with F (value_of e shape locals heap) negated (Then (place + length ce + 1) stack)
        (subst (λ n. Gives F (value_of (Negate' p e) shape locals heap) (Then n stack)) end g)))
    expr_safe (Chain' p first m rest) place stack fit has c g =
        let l = le-max_left (expr_need first) (chain_need rest) in
        let n = needs first in
        let r = le-max_right (expr_need first) (chain_need rest) in
        let ca = expr_code first in
        let end : place + length (ca ++ chain_code rest) ≡ place + length ca + length (chain_code rest) = omega (arith, length-append ca (chain_code rest)) in
        expr_safe first place stack (omega (arith, fit, l)) (has_front code place ca _ has) (front_covered (in_expr first) (in_operations rest) c)
        (gives-more F (value_of first shape locals heap) _ _
        (λ a k. chain_safe rest (place + length ca) stack a (omega (arith, fit, l, n)) (omega (arith, fit, r))
        (has_back code place ca _ has) (back_covered (in_expr first) (in_operations rest) c) k)
        (gives-chained rest (value_of first shape locals heap) (Then (place + length ca + length (chain_code rest)) stack)
        (subst (λ n. Gives F (value_of (Chain' p first m rest) shape locals heap) (Then n stack)) end g)))

    chain_safe : {m : _} (row : Row_of-Operation m) (place : ℕ) (stack : List Value) (a : Value) →
        length (a ∷ stack) ≤ room →
        length stack + chain_need row ≤ room → HasAt code place (chain_code row) →
        CoveredHere (in_operations row) →
        Gives F (chained row shape locals heap (Ok a)) (Then (place + length (chain_code row)) stack) → Then place stack a
    chain_safe end_of-Operation place stack a one fit has c g =
        let p : place + 0 ≡ place = omega arith in
        subst (λ n. Then n stack a) p g
    chain_safe (more_of-Operation o e rest) place stack a one fit has c g =
        let l = le-max_left (1 + expr_need e) (chain_need rest) in
        let n = needs e in
        let r = le-max_right (1 + expr_need e) (chain_need rest) in
        let ce = expr_code e in
        let front = has_front code place (ce ++ Operate o ∷ []) (chain_code rest) has in
        let back = has_back code place (ce ++ Operate o ∷ []) (chain_code rest) has in
        let len : place + length (ce ++ Operate o ∷ []) ≡ place + length ce + 1 = omega (arith, length-append ce (Operate o ∷ [])) in
        let end : place + length ((ce ++ Operate o ∷ []) ++ chain_code rest) ≡ place + length ce + 1 + length (chain_code rest) =
        omega (arith, length-append (ce ++ Operate o ∷ []) (chain_code rest), length-append ce (Operate o ∷ [])) in
        let last = Then (place + length ce + 1 + length (chain_code rest)) stack in
        let right = value_of e shape locals heap in
        safely place (a ∷ stack) (expr_safe e place (a ∷ stack) (omega (arith, fit, l)) (has_front code place ce _ front)
        (front_covered (in_expr e) (in_operations rest) c)
        (gives-more F right _ _
        (λ b k memory sees. take (Operate o) (here (place + length ce) (b ∷ a ∷ stack) memory) (omega (arith, fit, l, n)) (has_back code place ce _ front).0
        (on_trap (on_values o a b) _ _ k
        (λ w e' k'. chain_safe rest (place + length ce + 1) stack w one (omega (arith, fit, r)) (subst (λ n. HasAt code n (chain_code rest)) len back)
        (back_covered (in_expr e) (in_operations rest) c) k' memory sees)))
        (gives-with F right (λ b. on_values o a b) (λ w. Gives F (chained rest shape locals heap (Ok w)) last)
        (gives-chained rest (joined o (Ok a) right) last
        (subst (λ n. Gives F (chained rest shape locals heap (joined o (Ok a) right)) (Then n stack)) end g)))))

  -- ---- conditions

  -- with a truth value on the stack
  abbrev pub Tells : ℕ → List Value → Bool → Type 0
  Tells place stack b = Then place stack (truth b)

  gives-and : (r next : Result Bool Failure) (P : Bool → Type 0) → Gives F (and_then r next) P →
      Gives F r (λ b. Gives F (and_then (Ok b) next) P)
  gives-and (Ok b) next P g = g
  gives-and (Err (Trap t)) next P g = g
  gives-and (Err Wrong) next P g = g

  gives-or : (r next : Result Bool Failure) (P : Bool → Type 0) → Gives F (or_else r next) P →
      Gives F r (λ b. Gives F (or_else (Ok b) next) P)
  gives-or (Ok b) next P g = g
  gives-or (Err (Trap t)) next P g = g
  gives-or (Err Wrong) next P g = g

  -- an operand of && is on the stack: if it is true, the next place; else past the others
  and_safe : (b : Bool) (next : Result Bool Failure) (n place end : ℕ) (stack : List Value) → length stack + 1 ≤ room →
      slice_get code place ≡ Some (JumpIfFalse n) →
      place + 1 + n ≡ end → slice_get code end ≡ Some (PushNumber (pos 0)) → (Gives F next (Tells (end + 1) stack) → From (place + 1) stack) →
      Gives F (and_then (Ok b) next) (Tells (end + 1) stack) → Tells place stack b
  and_safe true next n place end stack fit at e push k g memory sees =
      take (JumpIfFalse n) (here place (truth true ∷ stack) memory) (omega (arith, fit)) at (safely (place + 1) stack (k g) memory sees)
  and_safe false next n place end stack fit at e push k g memory sees =
      take (JumpIfFalse n) (here place (truth false ∷ stack) memory) (omega (arith, fit)) at
      (subst (λ x. Safely x stack) (sym e) (λ memory sees. take (PushNumber (pos 0)) (here end stack memory) (omega (arith, fit)) push (g memory sees)) memory sees)

  or_safe : (b : Bool) (next : Result Bool Failure) (n place end : ℕ) (stack : List Value) → length stack + 1 ≤ room →
      slice_get code place ≡ Some (JumpIfTrue n) →
      place + 1 + n ≡ end → slice_get code end ≡ Some (PushNumber (pos 1)) → (Gives F next (Tells (end + 1) stack) → From (place + 1) stack) →
      Gives F (or_else (Ok b) next) (Tells (end + 1) stack) → Tells place stack b
  or_safe false next n place end stack fit at e push k g memory sees =
      take (JumpIfTrue n) (here place (truth false ∷ stack) memory) (omega (arith, fit)) at (safely (place + 1) stack (k g) memory sees)
  or_safe true next n place end stack fit at e push k g memory sees =
      take (JumpIfTrue n) (here place (truth true ∷ stack) memory) (omega (arith, fit)) at
      (subst (λ x. Safely x stack) (sym e) (λ memory sees. take (PushNumber (pos 1)) (here end stack memory) (omega (arith, fit)) push (g memory sees)) memory sees)

  not_safe : (b : Bool) (place : ℕ) (stack : List Value) → length stack + 1 ≤ room →
      slice_get code place ≡ Some NotTop →
      Tells (place + 1) stack (not b) → Tells place stack b
  not_safe true place stack fit at k memory sees = take NotTop (here place (truth true ∷ stack) memory) (omega (arith, fit)) at (k memory sees)
  not_safe false place stack fit at k memory sees = take NotTop (here place (truth false ∷ stack) memory) (omega (arith, fit)) at (k memory sees)

  -- the last operand, and a jump past the truth value after it
  last_safe : (b : Bool) (place end : ℕ) (stack : List Value) → length stack + 1 ≤ room →
      slice_get code place ≡ Some (Jump 1) → place + 1 ≡ end →
      Tells (end + 1) stack b → Tells place stack b
  last_safe b place end stack fit at e k memory sees =
      take (Jump 1) (here place (truth b ∷ stack) memory) (omega (arith, fit)) at
      (subst (λ x. Tells (x + 1) stack b) (sym e) k memory sees)

  mutual
    pub test_safe : (c : Condition) (place : ℕ) (stack : List Value) → length stack + test_need c ≤ room →
        HasAt code place (test_code c) →
        CoveredHere (in_condition c) →
        Gives F (truth_of c shape locals heap) (Tells (place + length (test_code c)) stack) → From place stack
    test_safe (Compare comparison a b) place stack fit has c g =
        let l = le-max_left (expr_need a) (1 + expr_need b) in
        let r = le-max_right (expr_need a) (1 + expr_need b) in
        let na = needs a in
        let nb = needs b in
        let ca = expr_code a in let cb = expr_code b in
        let x = value_of a shape locals heap in let y = value_of b shape locals heap in
        let back = has_back code place ca _ has in
        let end : place + length (ca ++ (cb ++ Test comparison ∷ [])) ≡ place + length ca + length cb + 1 =
        omega (arith, length-append ca (cb ++ Test comparison ∷ []), length-append cb (Test comparison ∷ [])) in
        let last = Tells (place + length ca + length cb + 1) stack in
        expr_safe a place stack (omega (arith, fit, l, r, na, nb)) (has_front code place ca _ has) (front_covered (in_expr a) (in_expr b) c)
        (gives-more F x _ _
        (λ u k. safely (place + length ca) (u ∷ stack) (expr_safe b (place + length ca) (u ∷ stack) (omega (arith, fit, l, r, na, nb))
        (has_front code (place + length ca) cb _ back) (back_covered (in_expr a) (in_expr b) c)
        (gives-more F y _ _
        (λ v k' memory sees. take (Test comparison) (here (place + length ca + length cb) (v ∷ u ∷ stack) memory) (omega (arith, fit, l, r, na, nb))
        (has_back code (place + length ca) cb _ back).0
        (on_trap (compared comparison u v) _ _ k' (λ w e kk. kk memory sees)))
        (gives-with F y (λ v. compared comparison u v) last k))))
        (gives-with F x (λ u. with y (λ v. compared comparison u v)) last
        (subst (λ n. Gives F (truth_of (Compare comparison a b) shape locals heap) (Tells n stack)) end g)))
    test_safe (Not' p c) place stack fit has cov g =
        let n = test_needs c in
        let cc' = test_code c in
        let end : place + length (cc' ++ NotTop ∷ []) ≡ place + length cc' + 1 = omega (arith, length-append cc' (NotTop ∷ [])) in
        test_safe c place stack fit (has_front code place cc' _ has) cov
        (gives-more F (truth_of c shape locals heap) _ _
        (λ b k. not_safe b (place + length cc') stack (omega (arith, fit, n)) (has_back code place cc' _ has).0 k)
        (gives-with F (truth_of c shape locals heap) (λ b. Ok (not b)) (Tells (place + length cc' + 1) stack)
        (subst (λ n. Gives F (truth_of (Not' p c) shape locals heap) (Tells n stack)) end g)))
    test_safe (And' m before p last) place stack fit has c g =
        let l = le-max_left (tests_need before) (test_need last) in
        let r = le-max_right (tests_need before) (test_need last) in
        let n = test_needs last in
        let cl = test_code last in
        let all = all_code before (cl ++ Jump 1 ∷ []) in
        let end : place + length (all ++ PushNumber (pos 0) ∷ []) ≡ place + length all + 1 = omega (arith, length-append all (PushNumber (pos 0) ∷ [])) in
        all_safe before (cl ++ Jump 1 ∷ []) (truth_of last shape locals heap) place (place + length all) stack (omega (arith, fit, l)) (omega (arith, fit, r, n))
        (has_back code place all _ has).0
        (has_front code place all _ has) refl (front_covered (in_conditions before) (in_condition last) c)
        (λ pc h e g'. test_safe last pc stack (omega (arith, fit, r)) (has_front code pc cl _ h) (back_covered (in_conditions before) (in_condition last) c)
        (gives-more F (truth_of last shape locals heap) _ _
        (λ b k. last_safe b (pc + length cl) (place + length all) stack (omega (arith, fit, r, n)) (has_back code pc cl _ h).0 (omega (arith, e, length-append cl (Jump 1 ∷ []))) k) g'))
        (subst (λ n. Gives F (truth_of (And' m before p last) shape locals heap) (Tells n stack)) end g)
    test_safe (Or' m before p last) place stack fit has c g =
        let l = le-max_left (tests_need before) (test_need last) in
        let r = le-max_right (tests_need before) (test_need last) in
        let n = test_needs last in
        let cl = test_code last in
        let all = any_code before (cl ++ Jump 1 ∷ []) in
        let end : place + length (all ++ PushNumber (pos 1) ∷ []) ≡ place + length all + 1 = omega (arith, length-append all (PushNumber (pos 1) ∷ [])) in
        any_safe before (cl ++ Jump 1 ∷ []) (truth_of last shape locals heap) place (place + length all) stack (omega (arith, fit, l)) (omega (arith, fit, r, n))
        (has_back code place all _ has).0
        (has_front code place all _ has) refl (front_covered (in_conditions before) (in_condition last) c)
        (λ pc h e g'. test_safe last pc stack (omega (arith, fit, r)) (has_front code pc cl _ h) (back_covered (in_conditions before) (in_condition last) c)
        (gives-more F (truth_of last shape locals heap) _ _
        (λ b k. last_safe b (pc + length cl) (place + length all) stack (omega (arith, fit, r, n)) (has_back code pc cl _ h).0 (omega (arith, e, length-append cl (Jump 1 ∷ []))) k) g'))
        (subst (λ n. Gives F (truth_of (Or' m before p last) shape locals heap) (Tells n stack)) end g)

    -- end is the place of the number that stands for false
    all_safe : {m : _} (row : Row_of-Condition m) (cl : List Instr) (last : Result Bool Failure) (place end : ℕ) (stack : List Value) →
        length stack + tests_need row ≤ room → length stack + 1 ≤ room →
        slice_get code end ≡ Some (PushNumber (pos 0)) → HasAt code place (all_code row cl) → place + length (all_code row cl) ≡ end →
        CoveredHere (in_conditions row) →
        ((pc : ℕ) → HasAt code pc cl → pc + length cl ≡ end → Gives F last (Tells (end + 1) stack) → From pc stack) →
        Gives F (all_true row shape locals heap last) (Tells (end + 1) stack) → From place stack
    all_safe end_of-Condition cl last place end stack fit one push has e c k g = k place has e g
    all_safe (more_of-Condition x rest) cl last place end stack fit one push has e c k g =
        let l = le-max_left (test_need x) (tests_need rest) in
        let r = le-max_right (test_need x) (tests_need rest) in
        let ct = test_code x in
        let cr = all_code rest cl in
        let back = has_back code place ct (JumpIfFalse (length cr) ∷ cr) has in
        let next = all_true rest shape locals heap last in
        test_safe x place stack (omega (arith, fit, l)) (has_front code place ct _ has) (front_covered (in_condition x) (in_conditions rest) c)
        (gives-more F (truth_of x shape locals heap) _ _
        (λ b g'. and_safe b next (length cr) (place + length ct) end stack one back.0 (omega (arith, e, length-append ct (JumpIfFalse (length cr) ∷ cr))) push
        (all_safe rest cl last (place + length ct + 1) end stack (omega (arith, fit, r)) one push back.1 (omega (arith, e, length-append ct (JumpIfFalse (length cr) ∷ cr)))
        (back_covered (in_condition x) (in_conditions rest) c) k) g')
        (gives-and (truth_of x shape locals heap) next (Tells (end + 1) stack) g))

    any_safe : {m : _} (row : Row_of-Condition m) (cl : List Instr) (last : Result Bool Failure) (place end : ℕ) (stack : List Value) →
        length stack + tests_need row ≤ room → length stack + 1 ≤ room →
        slice_get code end ≡ Some (PushNumber (pos 1)) → HasAt code place (any_code row cl) → place + length (any_code row cl) ≡ end →
        CoveredHere (in_conditions row) →
        ((pc : ℕ) → HasAt code pc cl → pc + length cl ≡ end → Gives F last (Tells (end + 1) stack) → From pc stack) →
        Gives F (any_true row shape locals heap last) (Tells (end + 1) stack) → From place stack
    any_safe end_of-Condition cl last place end stack fit one push has e c k g = k place has e g
    any_safe (more_of-Condition x rest) cl last place end stack fit one push has e c k g =
        let l = le-max_left (test_need x) (tests_need rest) in
        let r = le-max_right (test_need x) (tests_need rest) in
        let ct = test_code x in
        let cr = any_code rest cl in
        let back = has_back code place ct (JumpIfTrue (length cr) ∷ cr) has in
        let next = any_true rest shape locals heap last in
        test_safe x place stack (omega (arith, fit, l)) (has_front code place ct _ has) (front_covered (in_condition x) (in_conditions rest) c)
        (gives-more F (truth_of x shape locals heap) _ _
        (λ b g'. or_safe b next (length cr) (place + length ct) end stack one back.0 (omega (arith, e, length-append ct (JumpIfTrue (length cr) ∷ cr))) push
        (any_safe rest cl last (place + length ct + 1) end stack (omega (arith, fit, r)) one push back.1 (omega (arith, e, length-append ct (JumpIfTrue (length cr) ∷ cr)))
        (back_covered (in_condition x) (in_conditions rest) c) k) g')
        (gives-or (truth_of x shape locals heap) next (Tells (end + 1) stack) g))

  -- ---- statements

  abbrev pub state : State
  state = record { locals = locals; heap = heap; prints = prints }

  -- from a place on in a state, with the same cells seen
  abbrev pub On : ℕ → List Value → State → Type 0
  On place stack s = (memory : M) → Shows (view memory) s.heap → ((c : ℕ) → IsSeen seen c → IsSeen (view memory) c) →
      SafeHere (machine place stack s.locals memory s.prints)

  -- a local
  put_local_safe : (k place : ℕ) (stack : List Value) (v : Value) → length (v ∷ stack) ≤ room →
      slice_get code place ≡ Some (PutLocal k) → Shows seen heap →
      Leads F (stored k v state) (On (place + 1) stack) → Then place stack v
  put_local_safe k place stack v fit at shows g memory sees =
      take (PutLocal k) (here place (v ∷ stack) memory) fit at
      (on_trap (found (slice_get locals k)) _ _ (gives-given F (found (slice_get locals k)) state _ (On (place + 1) stack) g)
      (λ old e next. next memory (λ c w e. shows c w (sym (sees c) ∙ e)) (λ c h. (h.0, sees c ∙ h.1))))

  -- a cell
  store_goes : (cell place : ℕ) (old stack : List Value) (v : Value) (o : Option Value) (memory : M) →
      slice_get heap cell ≡ o → Sees memory → Shows seen heap →
      ((w : Value) → slice_get heap cell ≡ Some w → seen cell ≡ Some w) → Gives F (found o) (λ _. On (place + 1) stack (record { locals = locals; heap = slice_set heap cell v; prints = prints })) →
      GoesHere (stores load store shape (here place old memory) cell v stack)
  store_goes cell place old stack v None memory e sees shows c g = absurd g
  store_goes cell place old stack v (Some w) memory e sees shows c g =
      let l = is.stores memory cell w v (sees cell ∙ c w e) in
      subst (λ x. GoesHere (if_there x (λ memory'. advances (record (here place old memory) { memory = memory' }) stack))) (sym l.1)
      (g l.0 (shows-set seen (view l.0) heap cell w v shows e l.2 (λ d ne. l.3 d ne ∙ sees d)) (seen-set seen (view l.0) cell v l.2 (λ d ne. l.3 d ne ∙ sees d)))

  printed_same : (v : Value) (P : State → Type 0) → Leads F (meaning.printed v state) P →
      Gives F (printed prints v) (λ more. P (record { locals = locals; heap = heap; prints = more }))
  printed_same (Ref r) P g = g
  printed_same (Int n) P g = by (nat_lt (length prints) 256) g
    where
      by : (b : Bool) →
          Leads F (if b then GoesOn (record state { prints = prints ++ n ∷ [] }) else Traps TooManyPrints state) P →
          Gives F (if b then Ok (prints ++ n ∷ []) else Err (Trap TooManyPrints)) (λ more. P (record { locals = locals; heap = heap; prints = more }))
      by true g = g
      by false g = g

  not_null_same : (r base : Value) → not_null r ≡ Ok base → r ≡ base
  not_null_same (Int n) base e = cc
  not_null_same (Ref None) base e = cc
  not_null_same (Ref (Some o)) base e = cc

  -- a statement without blocks
  pub simple_safe : (action : Action) (start place : ℕ) (stack : List Value) →
      length stack + stmt_need action ≤ room → IsSimple action →
      HasAt code place (own_code action) → Shows seen heap →
      CoveredHere (in_action start action) →
      Leads F (effect_of action shape 0 state) (On (place + length (own_code action)) stack) → From place stack
  simple_safe (Bind k e) start place stack fit simple has shows c g =
      let n = needs e in
      let ce = expr_code e in
      let end : place + length (ce ++ PutLocal k ∷ []) ≡ place + length ce + 1 = omega (arith, length-append ce (PutLocal k ∷ [])) in
      expr_safe e place stack fit (has_front code place ce _ has) c
      (gives-more F (value_of e shape locals heap) _ _ (λ v g'. put_local_safe k (place + length ce) stack v (omega (arith, fit, n))
      (has_back code place ce _ has).0 shows g')
      (gives-given F (value_of e shape locals heap) state (λ v. stored k v state) (On (place + length ce + 1) stack)
      (subst (λ n. Leads F (effect_of (Bind k e) shape 0 state) (On n stack)) end g)))
  simple_safe (SetLocal k e) start place stack fit simple has shows c g =
      let n = needs e in
      let ce = expr_code e in
      let end : place + length (ce ++ PutLocal k ∷ []) ≡ place + length ce + 1 = omega (arith, length-append ce (PutLocal k ∷ [])) in
      expr_safe e place stack fit (has_front code place ce _ has) c
      (gives-more F (value_of e shape locals heap) _ _ (λ v g'. put_local_safe k (place + length ce) stack v (omega (arith, fit, n))
      (has_back code place ce _ has).0 shows g')
      (gives-given F (value_of e shape locals heap) state (λ v. stored k v state) (On (place + length ce + 1) stack)
      (subst (λ n. Leads F (effect_of (SetLocal k e) shape 0 state) (On n stack)) end g)))
  simple_safe (SetGlobal cell e) start place stack fit simple has shows c g =
      let n = needs e in
      let ce = expr_code e in
      let end : place + length (ce ++ PutGlobal cell ∷ []) ≡ place + length ce + 1 = omega (arith, length-append ce (PutGlobal cell ∷ [])) in
      expr_safe e place stack fit (has_front code place ce _ has) c.1
      (gives-more F (value_of e shape locals heap) _ _
      (λ v g' memory sees. take (PutGlobal cell) (here (place + length ce) (v ∷ stack) memory) (omega (arith, fit, n)) (has_back code place ce _ has).0
      (store_goes cell (place + length ce) (v ∷ stack) stack v (slice_get heap cell) memory refl sees shows (λ w. c.0 cell w to_global)
      (gives-given F (read heap cell) state _ (On (place + length ce + 1) stack) g')))
      (gives-given F (value_of e shape locals heap) state (λ v. written cell v state) (On (place + length ce + 1) stack)
      (subst (λ n. Leads F (effect_of (SetGlobal cell e) shape 0 state) (On n stack)) end g)))
  simple_safe (SetElement array i e) start place stack fit simple has shows c g =
      let l = le-max_left (expr_need i) (1 + expr_need e) in
      let r = le-max_right (expr_need i) (1 + expr_need e) in
      let ni = needs i in
      let n = needs e in
      let ci = expr_code i in let ce = expr_code e in
      let pc1 = place + length ci in let pc2 = pc1 + 1 in let pc3 = pc2 + length ce in
      let back = has_back code place ci _ has in
      let at = (has_back code pc2 ce _ back.1).0 in
      let end : place + length (ci ++ (Bound array ∷ (ce ++ PutElement array ∷ []))) ≡ pc3 + 1 =
      omega (arith, length-append ci (Bound array ∷ (ce ++ PutElement array ∷ [])), length-append ce (PutElement array ∷ [])) in
      let last = On (pc3 + 1) stack in
      expr_safe i place stack (omega (arith, fit, l, r, ni, n)) (has_front code place ci _ has) (front_covered (in_expr i) (in_expr e) c.1)
      (gives-more F (value_of i shape locals heap) _ _
      (λ x g' memory sees. take (Bound array) (here pc1 (x ∷ stack) memory) (omega (arith, fit, l, r, ni, n)) back.0
      (on_trap (element_cell shape array x) _ _
      (gives-given F (element_cell shape array x) state (λ cell. given (value_of e shape locals heap) state (λ v. written cell v state)) last g')
      (λ cell e1 g2. safely pc2 (x ∷ stack) (expr_safe e pc2 (x ∷ stack) (omega (arith, fit, l, r, ni, n))
      (has_front code pc2 ce _ back.1) (back_covered (in_expr i) (in_expr e) c.1)
      (gives-more F (value_of e shape locals heap) _ _
      (λ v g3 memory sees. take (PutElement array) (here pc3 (v ∷ x ∷ stack) memory) (omega (arith, fit, l, r, ni, n)) at
      (on_ok (element_cell shape array x) cell _ e1
      (store_goes cell pc3 (v ∷ x ∷ stack) stack v (slice_get heap cell) memory refl sees shows (λ w. c.0 cell w (to_element x e1))
      (gives-given F (read heap cell) state _ last g3))))
      (gives-given F (value_of e shape locals heap) state (λ v. written cell v state) last g2)))
      memory sees)))
      (gives-given F (value_of i shape locals heap) state _ last
      (subst (λ n. Leads F (effect_of (SetElement array i e) shape 0 state) (On n stack)) end g)))
  simple_safe (SetField path structure f e) start place stack fit simple has shows c g =
      let n = needs e in
      let ci = path_code path in let ce = expr_code e in
      let pc1 = place + length ci in let pc2 = pc1 + 1 in let pc3 = pc2 + length ce in
      let back = has_back code place ci _ has in
      let at = (has_back code pc2 ce _ back.1).0 in
      let end : place + length (ci ++ (NonNull ∷ (ce ++ PutField f structure ∷ []))) ≡ pc3 + 1 =
      omega (arith, length-append ci (NonNull ∷ (ce ++ PutField f structure ∷ [])), length-append ce (PutField f structure ∷ [])) in
      let last = On (pc3 + 1) stack in
      let base = place_of path shape locals heap in
      let covers = back_covered (in_path path) _ c in
      path_safe path place stack (omega (arith, fit, n)) (has_front code place ci _ has) (front_covered (in_path path) _ c)
      (gives-more F base _ _
      (λ r g' memory sees. take NonNull (here pc1 (r ∷ stack) memory) (omega (arith, fit, n)) back.0
      (on_trap (not_null r) _ _ g'.1
      (λ o e1 g2. let same = not_null_same r o e1 in
      safely pc2 (r ∷ stack) (expr_safe e pc2 (r ∷ stack) (omega (arith, fit, n)) (has_front code pc2 ce _ back.1) covers.1
      (gives-more F (value_of e shape locals heap) _ _
      (λ v g3 memory sees. take (PutField f structure) (here pc3 (v ∷ r ∷ stack) memory) (omega (arith, fit, n)) at
      (on_trap (field_cell shape r f) _ _
      (gives-given F (field_cell shape r f) state _ last (subst (λ x. Leads F (given (field_cell shape x f) state (λ cell. written cell v state)) last) (sym same) g3))
      (λ cell e2 g4. store_goes cell pc3 (v ∷ r ∷ stack) stack v (slice_get heap cell) memory refl sees shows
      (λ w. covers.0 cell w (reaches path.local path.fields.items structure f r cell g'.0 e2))
      (gives-given F (read heap cell) state _ last g4))))
      (gives-given F (value_of e shape locals heap) state _ last g2)))
      memory sees)))
      (gives-noted F base _
      (gives-with F base not_null _
      (gives-given F (with base not_null) state _ last
      (subst (λ n. Leads F (effect_of (SetField path structure f e) shape 0 state) (On n stack)) end g)))))
  simple_safe (Call f es r) start place stack fit simple has shows c g = absurd simple
  simple_safe (Print e) start place stack fit simple has shows c g =
      let n = needs e in
      let ce = expr_code e in
      let end : place + length (ce ++ PrintTop ∷ []) ≡ place + length ce + 1 = omega (arith, length-append ce (PrintTop ∷ [])) in
      expr_safe e place stack fit (has_front code place ce _ has) c
      (gives-more F (value_of e shape locals heap) _ _
      (λ v g' memory sees. take PrintTop (here (place + length ce) (v ∷ stack) memory) (omega (arith, fit, n)) (has_back code place ce _ has).0
      (on_trap (printed prints v) _ _ (printed_same v (On (place + length ce + 1) stack) g')
      (λ more e next. next memory (λ c w e. shows c w (sym (sees c) ∙ e)) (λ c h. (h.0, sees c ∙ h.1)))))
      (gives-given F (value_of e shape locals heap) state _ (On (place + length ce + 1) stack)
      (subst (λ n. Leads F (effect_of (Print e) shape 0 state) (On n stack)) end g)))
  simple_safe (If' x m block) start place stack fit simple has shows c g = absurd simple
  simple_safe (IfElse' x m block k otherwise) start place stack fit simple has shows c g = absurd simple
  simple_safe (While' x m body) start place stack fit simple has shows c g = absurd simple

  -- the place to which the jump after a condition leads
  abbrev pub branch : Bool → ℕ → ℕ → ℕ
  branch true place over = place + 1
  branch false place over = place + 1 + over

  jump_safe : (b : Bool) (place over : ℕ) (stack : List Value) → length stack + 1 ≤ room →
      slice_get code place ≡ Some (JumpIfFalse over) →
      Safely (branch b place over) stack → Tells place stack b
  jump_safe true place over stack fit at k memory sees = take (JumpIfFalse over) (here place (truth true ∷ stack) memory) (omega (arith, fit)) at (k memory sees)
  jump_safe false place over stack fit at k memory sees = take (JumpIfFalse over) (here place (truth false ∷ stack) memory) (omega (arith, fit)) at (k memory sees)

  -- a condition, and the jump after it
  pub branch_safe : (x : Condition) (place over : ℕ) (stack : List Value) → length stack + test_need x ≤ room →
      HasAt code place (test_code x) →
      slice_get code (place + length (test_code x)) ≡ Some (JumpIfFalse over) →
      CoveredHere (in_condition x) →
      Gives F (truth_of x shape locals heap) (λ b. Safely (branch b (place + length (test_code x)) over) stack) → From place stack
  branch_safe x place over stack fit has at c g =
      let n = test_needs x in
      test_safe x place stack fit has c (gives-more F (truth_of x shape locals heap) _ _ (λ b k. jump_safe b (place + length (test_code x)) over stack (omega (arith, fit, n)) at k) g)

  -- a result
  pub return_safe : (e : Expr) (place : ℕ) (stack : List Value) → length stack + expr_need e ≤ room →
      HasAt code place (expr_code e) →
      slice_get code (place + length (expr_code e)) ≡ Some Return →
      CoveredHere (in_expr e) → Gives F (value_of e shape locals heap) (λ v. F (out.Returns v)) → From place stack
  return_safe e place stack fit has at c g =
      let n = needs e in
      expr_safe e place stack fit has c (gives-more F (value_of e shape locals heap) _ _
      (λ v f memory sees. take Return (here (place + length (expr_code e)) (v ∷ stack) memory) (omega (arith, fit, n)) at f) g)
