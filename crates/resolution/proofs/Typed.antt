-- Well-typed resolved expressions and statements, as data; values that stand for them are well typed too.
use Rattle.std.proofs.Common.{◌≡◌, ℕ, zero, suc, List, [], ◌∷◌, Option, Some, None, refl, sym, ap, ◌∙◌, subst}
use Rattle.std.specs.Prelude.{map, option_map, slice_get, take, ⊤}
use Rattle.core_lang.specs.declared.value.ValueType.{ValueType}
use Rattle.core_lang.specs.declared.value.ValueType.TheVariants.{Integer, Reference}
use Rattle.core_lang.specs.declared.tree.Comparison.{Comparison}
use Rattle.core_lang.specs.declared.tree.Comparison.TheVariants.{Equal, NotEqual, Less, LessOrEqual, Greater}
use Rattle.core_lang.specs.declared.tree.Comparison.TheVariants.{GreaterOrEqual}
use Rattle.core_lang.specs.declared.tree.FieldStep.{FieldStep}
use Rattle.core_lang.specs.declared.tree.FieldStep.TheVariants as step
use Rattle.core_lang.specs.declared.tree.Expr as e
use Rattle.core_lang.specs.declared.tree.Expr.{Number, Null, Place, Global, Element', Member', Negate', Owned', Chain'}
use Rattle.core_lang.specs.declared.tree.Expr.{Row_of-Operation, end_of-Operation, more_of-Operation}
use Rattle.core_lang.specs.declared.tree.Condition as c
use Rattle.core_lang.specs.declared.tree.Condition.{Compare, Not', And', Or', Row_of-Condition, end_of-Condition}
use Rattle.core_lang.specs.declared.tree.Condition.{more_of-Condition}
use Rattle.core_lang.specs.declared.tree.Stmt as s
use Rattle.core_lang.specs.declared.tree.Action as a
use Rattle.core_lang.specs.declared.tree.Action.{Bind, SetLocal, SetGlobal, SetElement, SetField, Call, Print, If'}
use Rattle.core_lang.specs.declared.tree.Action.{IfElse', While', Row_of-Stmt, end_of-Stmt, more_of-Stmt}
use Rattle.core_lang.specs.declared.tree.Return as the_return
use Rattle.core_lang.specs.declared.tree.Local as the_local
use Rattle.core_lang.specs.declared.typed.Cell.{Cell}
use Rattle.core_lang.specs.declared.typed.Struct as the_struct
use Rattle.core_lang.specs.declared.typed.Typed.{Typed}
use Rattle.core_lang.specs.Typing.{local_types, if_global, global_type, array_type, pool_struct, final_target}
use Rattle.core_lang.specs.Typing.{field_type, LeadsTo, IsOf, AreIntegers, AreOf, CanCompare, IsTest, AreTests, Takes}
use Rattle.core_lang.specs.Typing.{IsWellTyped, AreWellTyped, AllWellTyped, IsResult}
use Rattle.core_lang.specs.Theory.Items.{map_back}
use Rattle.resolution.specs.Core as core
use Rattle.resolution.specs.CoreViews.{core_expr, core_operations_row, core_condition, core_conditions_row, core_action}
use Rattle.resolution.specs.CoreViews.{core_stmts_row, core_stmts, core_return, core_local, core_section, core_struct}
use Rattle.resolution.specs.CoreViews.{core_final, core_field, core_array, core_pool, core_of}
use Rattle.resolution.specs.Scopes.{◌>>=◌}

-- ---- the parts of a program, as data

abbrev pub global_in : core.Program → ℕ → Option ValueType
global_in p n = slice_get p.cells n >>= λ x. if_global x.owner x.value_type

abbrev pub array_in : core.Program → ℕ → Option ValueType
array_in p n = slice_get p.arrays n >>= λ x. Some x.element_type

abbrev pub pool_in : core.Program → ℕ → Option ℕ
pool_in p n = slice_get p.pools n >>= λ x. Some x.structure

abbrev pub final_in : core.Program → ℕ → ℕ → Option ℕ
final_in p s f = slice_get p.structs s >>= λ x. slice_get x.finals f >>= λ y. Some y.target

abbrev pub field_in : core.Program → ℕ → ℕ → Option ValueType
field_in p s f = slice_get p.structs s >>= λ x. slice_get x.fields f >>= λ y. Some y.value_type

-- the same of what stands for them
global_type_is : (program : Typed) (n : ℕ) (t : ValueType) → global_in (core_of program) n ≡ Some t →
    global_type program n ≡ Some t
global_type_is program n t h = by_cell (slice_get program.cells.items n) refl
  where
    by_cell : (o : Option Cell) → slice_get program.cells.items n ≡ o → global_type program n ≡ Some t
    by_cell (Some y) is = rw is (sym (ap (λ (o : Option Cell). o >>= λ x. if_global x.owner x.value_type) is) ∙ h)
    by_cell None is = let v : None ≡ Some t = sym (ap (λ (o : Option Cell). o >>= λ x. if_global x.owner x.value_type) is) ∙ h in cc

array_type_is : (program : Typed) (n : ℕ) (t : ValueType) → array_in (core_of program) n ≡ Some t →
    array_type program n ≡ Some t
array_type_is program n t h = by_array (slice_get (core_of program).arrays n) refl
  where
    by_array : (o : Option core.Array) → slice_get (core_of program).arrays n ≡ o → array_type program n ≡ Some t
    by_array (Some y) is =
        let r = map_back core_array program.shape.arrays.items n y is in
        let u : Some y.element_type ≡ Some t = sym (ap (λ (o : Option core.Array). o >>= λ z. Some z.element_type) is) ∙ h in
        rw r.1 (ap (λ (z : core.Array). Some z.element_type) r.2 ∙ u)
    by_array None is = let v : None ≡ Some t = sym (ap (λ (o : Option core.Array). o >>= λ y. Some y.element_type) is) ∙ h in cc

pool_struct_is : (program : Typed) (n k : ℕ) → pool_in (core_of program) n ≡ Some k → pool_struct program n ≡ Some k
pool_struct_is program n k h = by_pool (slice_get (core_of program).pools n) refl
  where
    by_pool : (o : Option core.Pool) → slice_get (core_of program).pools n ≡ o → pool_struct program n ≡ Some k
    by_pool (Some y) is =
        let r = map_back core_pool program.shape.pools.items n y is in
        let u : Some y.structure ≡ Some k = sym (ap (λ (o : Option core.Pool). o >>= λ z. Some z.structure) is) ∙ h in
        rw r.1 (ap (λ (z : core.Pool). Some z.structure) r.2 ∙ u)
    by_pool None is = let v : None ≡ Some k = sym (ap (λ (o : Option core.Pool). o >>= λ y. Some y.structure) is) ∙ h in cc

-- a struct's part
struct_got : (program : Typed) (s : ℕ) (y : core.Struct) → slice_get (core_of program).structs s ≡ Some y →
    (x : the_struct.Struct) × (slice_get program.structs.items s ≡ Some x) × (core_struct x ≡ y)
struct_got program s y e = map_back core_struct program.structs.items s y e

pub final_target_is : (program : Typed) (s f k : ℕ) → final_in (core_of program) s f ≡ Some k →
    final_target program s f ≡ Some k
final_target_is program s f k h = by_struct (slice_get (core_of program).structs s) refl
  where
    by_final : (x : the_struct.Struct) → slice_get program.structs.items s ≡ Some x → (o : Option core.FinalField) →
        slice_get (map core_final x.finals.items) f ≡ o → (o >>= λ z. Some z.target) ≡ Some k →
        final_target program s f ≡ Some k
    by_final x at (Some y) is u =
        let r = map_back core_final x.finals.items f y is in
        rw (at, r.1) (ap (λ (z : core.FinalField). Some z.target) r.2 ∙ u)
    by_final x at None is u = cc

    by_struct : (o : Option core.Struct) → slice_get (core_of program).structs s ≡ o → final_target program s f ≡ Some k
    by_struct (Some y) is =
        let r = struct_got program s y is in
        let u : (slice_get y.finals f >>= λ z. Some z.target) ≡ Some k = sym (ap (λ (o : Option core.Struct). o >>= λ x. slice_get x.finals f >>= λ z. Some z.target) is) ∙ h in
        by_final r.0 r.1 (slice_get (map core_final r.0.finals.items) f) refl (ap (λ (z : core.Struct). slice_get z.finals f >>= λ w. Some w.target) r.2 ∙ u)
    by_struct None is = let v : None ≡ Some k = sym (ap (λ (o : Option core.Struct). o >>= λ x. slice_get x.finals f >>= λ z. Some z.target) is) ∙ h in cc

pub field_type_is : (program : Typed) (s f : ℕ) (t : ValueType) → field_in (core_of program) s f ≡ Some t →
    field_type program s f ≡ Some t
field_type_is program s f t h = by_struct (slice_get (core_of program).structs s) refl
  where
    by_field : (x : the_struct.Struct) → slice_get program.structs.items s ≡ Some x → (o : Option core.Field) →
        slice_get (map core_field x.fields.items) f ≡ o → (o >>= λ z. Some z.value_type) ≡ Some t →
        field_type program s f ≡ Some t
    by_field x at (Some y) is u =
        let r = map_back core_field x.fields.items f y is in
        rw (at, r.1) (ap (λ (z : core.Field). Some z.value_type) r.2 ∙ u)
    by_field x at None is u = cc

    by_struct : (o : Option core.Struct) → slice_get (core_of program).structs s ≡ o → field_type program s f ≡ Some t
    by_struct (Some y) is =
        let r = struct_got program s y is in
        let u : (slice_get y.fields f >>= λ z. Some z.value_type) ≡ Some t = sym (ap (λ (o : Option core.Struct). o >>= λ x. slice_get x.fields f >>= λ z. Some z.value_type) is) ∙ h in
        by_field r.0 r.1 (slice_get (map core_field r.0.fields.items) f) refl (ap (λ (z : core.Struct). slice_get z.fields f >>= λ w. Some w.value_type) r.2 ∙ u)
    by_struct None is = let v : None ≡ Some t = sym (ap (λ (o : Option core.Struct). o >>= λ x. slice_get x.fields f >>= λ z. Some z.value_type) is) ∙ h in cc

-- ---- well typed, as data

-- the types of locals
abbrev pub types_of : List core.Local → List ValueType
types_of ls = map (λ (l : core.Local). l.value_type) ls

-- over a program and the types of a section's locals
module _ (p : core.Program) (locals : List ValueType) where
  abbrev pub Leads : ValueType → List FieldStep → ValueType → Type 0
  Leads from [] to = from ≡ to
  Leads Integer (f ∷ fs) to = ⊥
  Leads (Reference s) (step.Final structure f ∷ fs) to = (structure ≡ s) × (k : ℕ) × (final_in p s f ≡ Some k) × Leads (Reference k) fs to
  Leads (Reference s) (step.Field structure f ∷ fs) to = (structure ≡ s) × (t : ValueType) × (field_in p s f ≡ Some t) × Leads t fs to

  abbrev pub IsPath : core.Path → ValueType → Type 0
  IsPath x t = (from : ValueType) × (slice_get locals x.local ≡ Some from) × Leads from x.fields t

  abbrev mutual
    pub Is : core.Expr → ValueType → Type 0
    Is (core.number n) Integer = ⊤
    Is (core.number n) (Reference s) = ⊥
    Is core.null Integer = ⊥
    Is core.null (Reference s) = ⊤
    Is (core.place x) t = IsPath x t
    Is (core.global start cell) t = global_in p cell ≡ Some t
    Is (core.element start n index) t = (array_in p n ≡ Some t) × Is index Integer
    Is (core.member n index) Integer = ⊥
    Is (core.member n index) (Reference s) = (pool_in p n ≡ Some s) × Is index Integer
    Is (core.negate x) Integer = Is x Integer
    Is (core.negate x) (Reference s) = ⊥
    Is (core.owned x k f start n) Integer = ⊥
    Is (core.owned x k f start n) (Reference s) =
        (k ≡ s) × Is x (Reference s) × ((target : ℕ) × (final_in p s f ≡ Some target) × (slice_get locals n ≡ Some (Reference target)))
    Is (core.chain x rest) Integer = Is x Integer × Are rest
    Is (core.chain x rest) (Reference s) = ⊥

    pub Are : core.Operations → Type 0
    Are core.no_operations = ⊤
    Are (core.operation o x rest) = Is x Integer × Are rest

  abbrev pub Compares : Comparison → core.Expr → core.Expr → Type 0
  Compares Equal a b = (t : ValueType) × Is a t × Is b t
  Compares NotEqual a b = (t : ValueType) × Is a t × Is b t
  Compares Less a b = Is a Integer × Is b Integer
  Compares LessOrEqual a b = Is a Integer × Is b Integer
  Compares Greater a b = Is a Integer × Is b Integer
  Compares GreaterOrEqual a b = Is a Integer × Is b Integer

  abbrev mutual
    pub Tests : core.Condition → Type 0
    Tests (core.compare o a b) = Compares o a b
    Tests (core.negation x) = Tests x
    Tests (core.all_of before last) = AllTest before × Tests last
    Tests (core.any_of before last) = AllTest before × Tests last

    pub AllTest : core.Conditions → Type 0
    AllTest core.no_conditions = ⊤
    AllTest (core.condition x rest) = Tests x × AllTest rest

  -- expressions of exactly these types
  abbrev pub AreAll : List core.Expr → List ValueType → Type 0
  AreAll [] [] = ⊤
  AreAll [] (t ∷ ts) = ⊥
  AreAll (x ∷ xs) [] = ⊥
  AreAll (x ∷ xs) (t ∷ ts) = Is x t × AreAll xs ts

  -- a local of the type of a helper's result, if a local takes the result
  abbrev pub Taken : Option ℕ → Option ValueType → Type 0
  Taken None t = ⊤
  Taken (Some k) None = ⊥
  Taken (Some k) (Some t) = slice_get locals k ≡ Some t

  abbrev pub Gives : ℕ → core.Expr → Type 0
  Gives n x = (t : ValueType) × (slice_get locals n ≡ Some t) × Is x t

  abbrev mutual
    pub Acts : core.Action → Type 0
    Acts (core.bind n x) = Gives n x
    Acts (core.set_local n x) = Gives n x
    Acts (core.set_global cell x) = (t : ValueType) × (global_in p cell ≡ Some t) × Is x t
    Acts (core.set_element n index x) = (t : ValueType) × (array_in p n ≡ Some t) × Is index Integer × Is x t
    Acts (core.set_field base s f x) = IsPath base (Reference s) × ((t : ValueType) × (field_in p s f ≡ Some t) × Is x t)
    Acts (core.call k xs r) = (h : core.Section) × (slice_get p.helpers k ≡ Some h) × AreAll xs (types_of (take h.parameters h.locals)) × Taken r h.result_type
    Acts (core.print x) = Is x Integer
    Acts (core.if_true t block) = Tests t × AllAct block
    Acts (core.if_else t block other) = Tests t × AllAct block × AllAct other
    Acts (core.while_true t body) = Tests t × AllAct body

    pub AllAct : core.Stmts → Type 0
    AllAct core.no_stmts = ⊤
    AllAct (core.stmt start x rest) = Acts x × AllAct rest

  abbrev pub Returns : Option ValueType → Option core.Return → Type 0
  Returns None None = ⊤
  Returns None (Some r) = ⊥
  Returns (Some t) None = ⊥
  Returns (Some t) (Some r) = Is r.value t

-- ---- what stands for it is well typed

types_taken : (n : ℕ) (ls : List the_local.Local) → types_of (take n (map core_local ls)) ≡ local_types (take n ls)
types_taken zero ls = refl
types_taken (suc n) [] = refl
types_taken (suc n) (l ∷ ls) = ap (λ (ts : List ValueType). l.value_type ∷ ts) (types_taken n ls)

module _ (program : Typed) (locals : List ValueType) where
  leads_is : (from : ValueType) (fs : List FieldStep) (to : ValueType) → Leads (core_of program) locals from fs to →
      LeadsTo program locals from fs to
  leads_is from [] to h = h
  leads_is Integer (f ∷ fs) to h = absurd h
  leads_is (Reference s) (step.Final k f ∷ fs) to h = (h.0, h.1, final_target_is program s f h.1 h.2, leads_is (Reference h.1) fs to h.3)
  leads_is (Reference s) (step.Field k f ∷ fs) to h = (h.0, h.1, field_type_is program s f h.1 h.2, leads_is h.1 fs to h.3)

  mutual
    expr_is : (x : e.Expr) (t : ValueType) → Is (core_of program) locals (core_expr x) t → IsOf program locals x t
    expr_is (Number n) Integer h = h
    expr_is (Number n) (Reference s) h = h
    expr_is Null Integer h = h
    expr_is Null (Reference s) h = h
    expr_is (Place q) t h = (h.0, h.1, leads_is h.0 q.fields.items t h.2)
    expr_is (Global start cell) t h = global_type_is program cell t h
    expr_is (Element' start n _ index) t h = (array_type_is program n t h.0, expr_is index Integer h.1)
    expr_is (Member' n _ index) Integer h = absurd h
    expr_is (Member' n _ index) (Reference s) h = (pool_struct_is program n s h.0, expr_is index Integer h.1)
    expr_is (Negate' _ x) Integer h = expr_is x Integer h
    expr_is (Negate' _ x) (Reference s) h = absurd h
    expr_is (Owned' _ x k f start n) Integer h = absurd h
    expr_is (Owned' _ x k f start n) (Reference s) h = (h.0, expr_is x (Reference s) h.1, (h.2.0, final_target_is program s f h.2.0 h.2.1, h.2.2))
    expr_is (Chain' _ x _ rest) Integer h = (expr_is x Integer h.0, operations_are rest h.1)
    expr_is (Chain' _ x _ rest) (Reference s) h = absurd h

    operations_are : {k : _} (row : Row_of-Operation k) → Are (core_of program) locals (core_operations_row row) →
        AreIntegers program locals row
    operations_are end_of-Operation h = tt
    operations_are (more_of-Operation o x rest) h = (expr_is x Integer h.0, operations_are rest h.1)

  all_are : (xs : List e.Expr) (ts : List ValueType) → AreAll (core_of program) locals (map core_expr xs) ts →
      AreOf program locals xs ts
  all_are [] [] h = tt
  all_are [] (t ∷ ts) h = absurd h
  all_are (x ∷ xs) [] h = absurd h
  all_are (x ∷ xs) (t ∷ ts) h = (expr_is x t h.0, all_are xs ts h.1)

  taken_is : (r : Option ℕ) (t : Option ValueType) → Taken (core_of program) locals r t → Takes program locals r t
  taken_is None t h = tt
  taken_is (Some k) None h = absurd h
  taken_is (Some k) (Some t) h = h

  compare_is : (o : Comparison) (x y : e.Expr) → Compares (core_of program) locals o (core_expr x) (core_expr y) →
      CanCompare program locals o x y
  compare_is Equal x y h = (h.0, expr_is x h.0 h.1, expr_is y h.0 h.2)
  compare_is NotEqual x y h = (h.0, expr_is x h.0 h.1, expr_is y h.0 h.2)
  compare_is Less x y h = (expr_is x Integer h.0, expr_is y Integer h.1)
  compare_is LessOrEqual x y h = (expr_is x Integer h.0, expr_is y Integer h.1)
  compare_is Greater x y h = (expr_is x Integer h.0, expr_is y Integer h.1)
  compare_is GreaterOrEqual x y h = (expr_is x Integer h.0, expr_is y Integer h.1)

  mutual
    test_is : (x : c.Condition) → Tests (core_of program) locals (core_condition x) → IsTest program locals x
    test_is (Compare o x y) h = compare_is o x y h
    test_is (Not' _ x) h = test_is x h
    test_is (And' _ before _ last) h = (tests_are before h.0, test_is last h.1)
    test_is (Or' _ before _ last) h = (tests_are before h.0, test_is last h.1)

    tests_are : {k : _} (row : Row_of-Condition k) → AllTest (core_of program) locals (core_conditions_row row) →
        AreTests program locals row
    tests_are end_of-Condition h = tt
    tests_are (more_of-Condition x rest) h = (test_is x h.0, tests_are rest h.1)

  mutual
    action_is : (x : a.Action) → Acts (core_of program) locals (core_action x) → IsWellTyped program locals x
    action_is (Bind n x) h = (h.0, h.1, expr_is x h.0 h.2)
    action_is (SetLocal n x) h = (h.0, h.1, expr_is x h.0 h.2)
    action_is (SetGlobal cell x) h = (h.0, global_type_is program cell h.0 h.1, expr_is x h.0 h.2)
    action_is (SetElement n index x) h = (h.0, array_type_is program n h.0 h.1, expr_is index Integer h.2, expr_is x h.0 h.3)
    action_is (SetField base s f x) h = ((h.0.0, h.0.1, leads_is h.0.0 base.fields.items (Reference s) h.0.2), (h.1.0, field_type_is program s f h.1.0 h.1.1, expr_is x h.1.0 h.1.2))
    action_is (Call k xs r) h =
        let g = map_back core_section program.shape.helpers.items k h.0 h.1 in
        let s = g.0 in
        let types = types_taken s.parameters s.locals.items in
        let given = subst (λ (z : core.Section). AreAll (core_of program) locals (map core_expr xs.items) (types_of (take z.parameters z.locals))) (sym g.2) h.2 in (
          s,
          g.1,
          all_are xs.items (local_types (take s.parameters s.locals.items)) (subst (AreAll (core_of program) locals (map core_expr xs.items)) types given),
          taken_is r s.result_type (subst (λ (z : core.Section). Taken (core_of program) locals r z.result_type) (sym g.2) h.3),
        )
    action_is (Print x) h = expr_is x Integer h
    action_is (If' t _ block) h = (test_is t h.0, stmts_are block h.1)
    action_is (IfElse' t _ block _ other) h = (test_is t h.0, stmts_are block h.1, stmts_are other h.2)
    action_is (While' t _ body) h = (test_is t h.0, stmts_are body h.1)

    stmts_are : {k : _} (row : Row_of-Stmt k) → AllAct (core_of program) locals (core_stmts_row row) →
        AreWellTyped program locals row
    stmts_are end_of-Stmt h = tt
    stmts_are (more_of-Stmt start x rest) h = (action_is x h.0, stmts_are rest h.1)

  pub body_typed : (xs : List s.Stmt) → AllAct (core_of program) locals (core_stmts xs) → AllWellTyped program locals xs
  body_typed [] h = tt
  body_typed (x ∷ xs) h = (action_is x.action h.0, body_typed xs h.1)

  pub result_typed : (t : Option ValueType) (r : Option the_return.Return) →
      Returns (core_of program) locals t (option_map core_return r) → IsResult program locals t r
  result_typed None None h = tt
  result_typed None (Some r) h = absurd h
  result_typed (Some t) None h = absurd h
  result_typed (Some t) (Some r) h = expr_is r.value t h
