-- Resolved statements that name locals in scope, as data; values that stand for them do so too.
use Rattle.std.proofs.Common.{◌≡◌, ℕ, List, [], ◌∷◌, ◌++◌, Option, Some, None, refl, ap, ◌∙◌, subst}
use Rattle.std.specs.Prelude.{map, ⊤}
use Rattle.std.specs.List.{Contains}
use Rattle.core_lang.specs.declared.tree.Expr as e
use Rattle.core_lang.specs.declared.tree.Expr.{Number, Null, Place, Global, Element', Member', Negate', Owned'}
use Rattle.core_lang.specs.declared.tree.Expr.{Chain', Row_of-Operation, end_of-Operation, more_of-Operation}
use Rattle.core_lang.specs.declared.tree.Condition as c
use Rattle.core_lang.specs.declared.tree.Condition.{Compare, Not', And', Or', Row_of-Condition, end_of-Condition}
use Rattle.core_lang.specs.declared.tree.Condition.{more_of-Condition}
use Rattle.core_lang.specs.declared.tree.Stmt as s
use Rattle.core_lang.specs.declared.tree.Action as a
use Rattle.core_lang.specs.declared.tree.Action.{Bind, SetLocal, SetGlobal, SetElement, SetField, Call, Print, If'}
use Rattle.core_lang.specs.declared.tree.Action.{IfElse', While', Row_of-Stmt, end_of-Stmt, more_of-Stmt}
use Rattle.core_lang.specs.declared.tree.Return as the_return
use Rattle.core_lang.specs.Scopes.{NamesOnly, AllNameOnly, EachNamesOnly, TestsOnly, AllTestOnly, scope_after}
use Rattle.core_lang.specs.Scopes.{IsScoped, AreScoped, AllScoped, scope_after_all, bound_by, bound_in, bound_in_all}
use Rattle.core_lang.specs.Scopes.{assigned_by, assigned_in, assigned_in_all, ResultNamesOnly}
use Rattle.resolution.specs.Core as core
use Rattle.resolution.specs.CoreViews.{core_expr, core_operations_row, core_condition, core_conditions_row}
use Rattle.resolution.specs.CoreViews.{core_action, core_stmts_row, core_stmts}

-- ---- as data

abbrev mutual
  pub Names : List ℕ → core.Expr → Type 0
  Names scope (core.number n) = ⊤
  Names scope core.null = ⊤
  Names scope (core.place x) = Contains scope x.local
  Names scope (core.global start cell) = ⊤
  Names scope (core.element start n index) = Names scope index
  Names scope (core.member n index) = Names scope index
  Names scope (core.negate x) = Names scope x
  Names scope (core.owned x s f start k) = Names scope x × Contains scope k
  Names scope (core.chain x rest) = Names scope x × AllName scope rest

  pub AllName : List ℕ → core.Operations → Type 0
  AllName scope core.no_operations = ⊤
  AllName scope (core.operation o x rest) = Names scope x × AllName scope rest

abbrev pub EachNames : List ℕ → List core.Expr → Type 0
EachNames scope [] = ⊤
EachNames scope (x ∷ xs) = Names scope x × EachNames scope xs

abbrev mutual
  pub TestNames : List ℕ → core.Condition → Type 0
  TestNames scope (core.compare o a b) = Names scope a × Names scope b
  TestNames scope (core.negation x) = TestNames scope x
  TestNames scope (core.all_of before last) = AllTestName scope before × TestNames scope last
  TestNames scope (core.any_of before last) = AllTestName scope before × TestNames scope last

  pub AllTestName : List ℕ → core.Conditions → Type 0
  AllTestName scope core.no_conditions = ⊤
  AllTestName scope (core.condition x rest) = TestNames scope x × AllTestName scope rest

abbrev pub behind : List ℕ → core.Action → List ℕ
behind scope (core.bind n x) = n ∷ scope
behind scope (core.set_local n x) = scope
behind scope (core.set_global n x) = scope
behind scope (core.set_element n i x) = scope
behind scope (core.set_field b k f x) = scope
behind scope (core.call h xs None) = scope
behind scope (core.call h xs (Some n)) = n ∷ scope
behind scope (core.print x) = scope
behind scope (core.if_true t b) = scope
behind scope (core.if_else t b o) = scope
behind scope (core.while_true t b) = scope

abbrev mutual
  pub ActNames : List ℕ → core.Action → Type 0
  ActNames scope (core.bind n x) = Names scope x
  ActNames scope (core.set_local n x) = Contains scope n × Names scope x
  ActNames scope (core.set_global n x) = Names scope x
  ActNames scope (core.set_element n i x) = Names scope i × Names scope x
  ActNames scope (core.set_field b k f x) = Contains scope b.local × Names scope x
  ActNames scope (core.call h xs r) = EachNames scope xs
  ActNames scope (core.print x) = Names scope x
  ActNames scope (core.if_true t b) = TestNames scope t × StmtsName scope b
  ActNames scope (core.if_else t b o) = TestNames scope t × StmtsName scope b × StmtsName scope o
  ActNames scope (core.while_true t b) = TestNames scope t × StmtsName scope b

  pub StmtsName : List ℕ → core.Stmts → Type 0
  StmtsName scope core.no_stmts = ⊤
  StmtsName scope (core.stmt start x rest) = ActNames scope x × StmtsName (behind scope x) rest

abbrev pub behind_all : List ℕ → core.Stmts → List ℕ
behind_all scope core.no_stmts = scope
behind_all scope (core.stmt start x rest) = behind_all (behind scope x) rest

abbrev mutual
  pub binding : core.Action → List ℕ
  binding (core.bind n x) = n ∷ []
  binding (core.set_local n x) = []
  binding (core.set_global n x) = []
  binding (core.set_element n i x) = []
  binding (core.set_field b k f x) = []
  binding (core.call h xs None) = []
  binding (core.call h xs (Some n)) = n ∷ []
  binding (core.print x) = []
  binding (core.if_true t b) = all_binding b
  binding (core.if_else t b o) = all_binding b ++ all_binding o
  binding (core.while_true t b) = all_binding b

  pub all_binding : core.Stmts → List ℕ
  all_binding core.no_stmts = []
  all_binding (core.stmt start x rest) = binding x ++ all_binding rest

abbrev mutual
  pub assigning : core.Action → List ℕ
  assigning (core.bind n x) = []
  assigning (core.set_local n x) = n ∷ []
  assigning (core.set_global n x) = []
  assigning (core.set_element n i x) = []
  assigning (core.set_field b k f x) = []
  assigning (core.call h xs r) = []
  assigning (core.print x) = []
  assigning (core.if_true t b) = all_assigning b
  assigning (core.if_else t b o) = all_assigning b ++ all_assigning o
  assigning (core.while_true t b) = all_assigning b

  pub all_assigning : core.Stmts → List ℕ
  all_assigning core.no_stmts = []
  all_assigning (core.stmt start x rest) = assigning x ++ all_assigning rest

-- ---- of what stands for them

mutual
  names_is : (scope : List ℕ) (x : e.Expr) → Names scope (core_expr x) → NamesOnly scope x
  names_is scope (Number n) h = h
  names_is scope Null h = h
  names_is scope (Place q) h = h
  names_is scope (Global start cell) h = h
  names_is scope (Element' start n _ index) h = names_is scope index h
  names_is scope (Member' n _ index) h = names_is scope index h
  names_is scope (Negate' _ x) h = names_is scope x h
  names_is scope (Owned' _ x s f start k) h = (names_is scope x h.0, h.1)
  names_is scope (Chain' _ x _ rest) h = (names_is scope x h.0, all_name_is scope rest h.1)

  all_name_is : {k : _} (scope : List ℕ) (row : Row_of-Operation k) → AllName scope (core_operations_row row) →
      AllNameOnly scope row
  all_name_is scope end_of-Operation h = tt
  all_name_is scope (more_of-Operation o x rest) h = (names_is scope x h.0, all_name_is scope rest h.1)

each_names_is : (scope : List ℕ) (xs : List e.Expr) → EachNames scope (map core_expr xs) → EachNamesOnly scope xs
each_names_is scope [] h = tt
each_names_is scope (x ∷ xs) h = (names_is scope x h.0, each_names_is scope xs h.1)

mutual
  tests_is : (scope : List ℕ) (x : c.Condition) → TestNames scope (core_condition x) → TestsOnly scope x
  tests_is scope (Compare o x y) h = (names_is scope x h.0, names_is scope y h.1)
  tests_is scope (Not' _ x) h = tests_is scope x h
  tests_is scope (And' _ before _ last) h = (all_tests_is scope before h.0, tests_is scope last h.1)
  tests_is scope (Or' _ before _ last) h = (all_tests_is scope before h.0, tests_is scope last h.1)

  all_tests_is : {k : _} (scope : List ℕ) (row : Row_of-Condition k) → AllTestName scope (core_conditions_row row) →
      AllTestOnly scope row
  all_tests_is scope end_of-Condition h = tt
  all_tests_is scope (more_of-Condition x rest) h = (tests_is scope x h.0, all_tests_is scope rest h.1)

behind_is : (scope : List ℕ) (x : a.Action) → behind scope (core_action x) ≡ scope_after scope x
behind_is scope (Bind n x) = refl
behind_is scope (SetLocal n x) = refl
behind_is scope (SetGlobal n x) = refl
behind_is scope (SetElement n i x) = refl
behind_is scope (SetField b k f x) = refl
behind_is scope (Call h xs None) = refl
behind_is scope (Call h xs (Some n)) = refl
behind_is scope (Print x) = refl
behind_is scope (If' t _ b) = refl
behind_is scope (IfElse' t _ b _ o) = refl
behind_is scope (While' t _ b) = refl

mutual
  act_is : (scope : List ℕ) (x : a.Action) → ActNames scope (core_action x) → IsScoped scope x
  act_is scope (Bind n x) h = names_is scope x h
  act_is scope (SetLocal n x) h = (h.0, names_is scope x h.1)
  act_is scope (SetGlobal n x) h = names_is scope x h
  act_is scope (SetElement n i x) h = (names_is scope i h.0, names_is scope x h.1)
  act_is scope (SetField b k f x) h = (h.0, names_is scope x h.1)
  act_is scope (Call k xs r) h = each_names_is scope xs.items h
  act_is scope (Print x) h = names_is scope x h
  act_is scope (If' t _ b) h = (tests_is scope t h.0, row_is scope b h.1)
  act_is scope (IfElse' t _ b _ o) h = (tests_is scope t h.0, row_is scope b h.1, row_is scope o h.2)
  act_is scope (While' t _ b) h = (tests_is scope t h.0, row_is scope b h.1)

  row_is : {k : _} (scope : List ℕ) (row : Row_of-Stmt k) → StmtsName scope (core_stmts_row row) → AreScoped scope row
  row_is scope end_of-Stmt h = tt
  row_is scope (more_of-Stmt start x rest) h = (act_is scope x h.0, row_is (scope_after scope x) rest (subst (λ (w : List ℕ). StmtsName w (core_stmts_row rest)) (behind_is scope x) h.1))

pub body_scoped : (scope : List ℕ) (xs : List s.Stmt) → StmtsName scope (core_stmts xs) → AllScoped scope xs
body_scoped scope [] h = tt
body_scoped scope (x ∷ xs) h = (act_is scope x.action h.0, body_scoped (scope_after scope x.action) xs (subst (λ (w : List ℕ). StmtsName w (core_stmts xs)) (behind_is scope x.action) h.1))

pub body_behind : (scope : List ℕ) (xs : List s.Stmt) → behind_all scope (core_stmts xs) ≡ scope_after_all scope xs
body_behind scope [] = refl
body_behind scope (x ∷ xs) = ap (λ (w : List ℕ). behind_all w (core_stmts xs)) (behind_is scope x.action) ∙ body_behind (scope_after scope x.action) xs

pub result_scoped : (scope : List ℕ) (r : Option the_return.Return) →
    ((x : the_return.Return) → r ≡ Some x → Names scope (core_expr x.value)) → ResultNamesOnly scope r
result_scoped scope None h = tt
result_scoped scope (Some x) h = names_is scope x.value (h x refl)

mutual
  binding_is : (x : a.Action) → binding (core_action x) ≡ bound_by x
  binding_is (Bind n x) = refl
  binding_is (SetLocal n x) = refl
  binding_is (SetGlobal n x) = refl
  binding_is (SetElement n i x) = refl
  binding_is (SetField b k f x) = refl
  binding_is (Call h xs None) = refl
  binding_is (Call h xs (Some n)) = refl
  binding_is (Print x) = refl
  binding_is (If' t _ b) = row_binding b
  binding_is (IfElse' t _ b _ o) = ap (λ (l : List ℕ). l ++ all_binding (core_stmts_row o)) (row_binding b) ∙ ap (λ (l : List ℕ). bound_in b ++ l) (row_binding o)
  binding_is (While' t _ b) = row_binding b

  row_binding : {k : _} (row : Row_of-Stmt k) → all_binding (core_stmts_row row) ≡ bound_in row
  row_binding end_of-Stmt = refl
  row_binding (more_of-Stmt start x rest) = ap (λ (l : List ℕ). l ++ all_binding (core_stmts_row rest)) (binding_is x) ∙ ap (λ (l : List ℕ). bound_by x ++ l) (row_binding rest)

pub body_binding : (xs : List s.Stmt) → all_binding (core_stmts xs) ≡ bound_in_all xs
body_binding [] = refl
body_binding (x ∷ xs) = ap (λ (l : List ℕ). l ++ all_binding (core_stmts xs)) (binding_is x.action) ∙ ap (λ (l : List ℕ). bound_by x.action ++ l) (body_binding xs)

mutual
  assigning_is : (x : a.Action) → assigning (core_action x) ≡ assigned_by x
  assigning_is (Bind n x) = refl
  assigning_is (SetLocal n x) = refl
  assigning_is (SetGlobal n x) = refl
  assigning_is (SetElement n i x) = refl
  assigning_is (SetField b k f x) = refl
  assigning_is (Call h xs r) = refl
  assigning_is (Print x) = refl
  assigning_is (If' t _ b) = row_assigning b
  assigning_is (IfElse' t _ b _ o) = ap (λ (l : List ℕ). l ++ all_assigning (core_stmts_row o)) (row_assigning b) ∙ ap (λ (l : List ℕ). assigned_in b ++ l) (row_assigning o)
  assigning_is (While' t _ b) = row_assigning b

  row_assigning : {k : _} (row : Row_of-Stmt k) → all_assigning (core_stmts_row row) ≡ assigned_in row
  row_assigning end_of-Stmt = refl
  row_assigning (more_of-Stmt start x rest) = ap (λ (l : List ℕ). l ++ all_assigning (core_stmts_row rest)) (assigning_is x) ∙ ap (λ (l : List ℕ). assigned_by x ++ l) (row_assigning rest)

pub body_assigning : (xs : List s.Stmt) → all_assigning (core_stmts xs) ≡ assigned_in_all xs
body_assigning [] = refl
body_assigning (x ∷ xs) = ap (λ (l : List ℕ). l ++ all_assigning (core_stmts xs)) (assigning_is x.action) ∙ ap (λ (l : List ℕ). assigned_by x.action ++ l) (body_assigning xs)
