-- What the code computes: the resolved form of a statement, if everything in it has a type.
use Rattle.std.specs.Prelude.{ℕ, Bool, false, List, [], ◌∷◌, length, Option, Some, None, if◌then◌else◌}
use Rattle.syntax.specs.Trees.{Place, lone, element, path, Expr, Local, Owner, HelperCall, CalledLocal, Stmt, let_local}
use Rattle.syntax.specs.Trees.{let_owned, let_call, var_local, assign, if_then, while, print, return_value, call, Stmts}
use Rattle.syntax.specs.Trees.{no_stmts, stmt, Otherwise, no_else, else_do, Param, Section, Decl, lock, struct, global}
use Rattle.syntax.specs.Trees.{array, pool, init, atomic, helper, thread}
use Rattle.core_lang.specs.declared.value.ValueType as core_type
use Rattle.core_lang.specs.declared.tree.FieldStep.{FieldStep}
use Rattle.core_lang.specs.declared.tree.FieldStep.TheVariants as step
use Rattle.resolution.specs.declared.wanted.Want.{Want}
use Rattle.resolution.specs.declared.wanted.Want.TheVariants.{Anything, Value}
use Rattle.resolution.specs.Core as core
use Rattle.resolution.specs.Scopes.{◌>>=◌, Scope, outside, Meaning, a_local, a_decl, nothing, meaning, helper_meant}
use Rattle.resolution.specs.Scopes.{number_at, type_of, result_of, left}
use Rattle.resolution.specs.Expressions.{want, Walk, reached}
use Rattle.resolution.specs.Working.TypedExpressions.{fitting, as_value, number_resolved, test_resolved, typed}
use Rattle.resolution.specs.Expressions.{at_lock, lost, walk_from, local_path, cell_of}
use Rattle.resolution.specs.Working.TypedOwners.{is_of, owned_by}
use Rattle.resolution.specs.Constants.{want_of}
use Rattle.resolution.specs.Working.TypedConstants.{added}
use Rattle.resolution.specs.Statements.{is_var, first_name, after, after_all}

-- ---- the left side of an assignment

-- the target of an assignment
pub data Target : Type 0 where
  to_local : (local : ℕ) → Target
  to_global : (cell : ℕ) → Target
  to_element : (number : ℕ) → (index : core.Expr) → Target
  to_field : (base : core.Path) → (structure field : ℕ) → Target

-- the target of an assignment, and its type
pub record Assignee : Type 0 where
  pub target : Target
  pub value_type : core_type.ValueType

abbrev pub assignee : Option Target → Option core_type.ValueType → Option Assignee
assignee (Some t) (Some v) = Some (record { target = t; value_type = v })
assignee (Some t) None = None
assignee None v = None

-- the target that a name is
abbrev pub assignee_at : List Decl → Meaning → Option Assignee
assignee_at decls (a_local i l) = if is_var l.kind then assignee (Some (to_local i)) l.value_type else None
assignee_at decls (a_decl i (global v)) =
    assignee (Some (to_global (cell_of decls i))) (type_of (outside decls) v.value_type)
assignee_at decls _ = None

-- the target that a name with an index is
abbrev pub assignee_at_element : List Decl → Meaning → Option core.Expr → Option Assignee
assignee_at_element decls (a_decl i (array a)) (Some index) =
    assignee (Some (to_element (number_at decls i (array a)) index)) (type_of (outside decls) a.value_type)
assignee_at_element decls (a_decl i (lock x)) (Some index) = None
assignee_at_element decls (a_decl i (struct s)) (Some index) = None
assignee_at_element decls (a_decl i (global v)) (Some index) = None
assignee_at_element decls (a_decl i (pool p)) (Some index) = None
assignee_at_element decls (a_decl i (init j)) (Some index) = None
assignee_at_element decls (a_decl i (atomic s)) (Some index) = None
assignee_at_element decls (a_decl i (helper s)) (Some index) = None
assignee_at_element decls (a_decl i (thread t)) (Some index) = None
assignee_at_element decls (a_local i l) (Some index) = None
assignee_at_element decls nothing (Some index) = None
assignee_at_element decls m None = None

-- the steps before the last one, and the last one, if it is a field that is not final: its struct and its number
pub record Split : Type 0 where
  pub base : List FieldStep
  pub structure : ℕ
  pub field : ℕ

abbrev pub behind : FieldStep → Split → Split
behind s p = record p { base = s ∷ p.base }

abbrev pub last_field : List FieldStep → Option Split
last_field [] = None
last_field (step.Field k n ∷ []) = Some (record { base = []; structure = k; field = n })
last_field (step.Final k n ∷ []) = None
last_field (s ∷ r ∷ rs) = last_field (r ∷ rs) >>= λ p. Some (behind s p)

abbrev pub field_target : ℕ → ℕ → Option Split → Option Target
field_target start i (Some p) = Some (to_field (local_path start i p.base) p.structure p.field)
field_target start i None = None

-- the target that a local with fields is
abbrev pub assignee_along : ℕ → Meaning → Walk → Option Assignee
assignee_along start (a_local i l) (reached steps t) = assignee (field_target start i (last_field steps)) (Some t)
assignee_along start (a_local i l) at_lock = None
assignee_along start (a_local i l) lost = None
assignee_along start (a_decl i d) w = None
assignee_along start nothing w = None

-- the left side of an assignment, if it is one
abbrev pub target_of : Scope → Place → Option Assignee
target_of sc (lone x) = assignee_at sc.decls (meaning sc x.text)
target_of sc (element x e) = assignee_at_element sc.decls (meaning sc x.text) (number_resolved (typed sc e))
target_of sc (path x fs) = assignee_along x.span.start (meaning sc x.text) (walk_from sc.decls (meaning sc x.text) fs)

-- what is expected of the assigned value
abbrev pub wanted_by : Option Assignee → Want
wanted_by (Some a) = Value a.value_type
wanted_by None = Anything

-- ---- calls of helpers

-- the arguments of a call, from left to right, one for each parameter
abbrev pub typed_values : Scope → List Param → List Expr → Option (List core.Expr)
typed_values sc [] [] = Some []
typed_values sc [] (e ∷ es) = None
typed_values sc (p ∷ ps) [] = None
typed_values sc (p ∷ ps) (e ∷ es) = added (as_value (fitting (want_of sc.decls p) (typed sc e))) (typed_values sc ps es)

-- a call of the helper that the name refers to, if it refers to one; the local takes the result
abbrev pub called : Scope → Option (ℕ × Section) → List Expr → Option ℕ → Option core.Action
called sc (Some (i, s)) es local =
    typed_values sc s.params es >>= λ vs. Some (core.call (number_at sc.decls i (helper s)) vs local)
called sc None es local = None

abbrev pub call_resolved : Scope → HelperCall → Option ℕ → Option core.Action
call_resolved sc c local = called sc (helper_meant (meaning sc c.helper.text)) c.arguments local

-- the type of a call's result, if it has a result whose type has no fault
abbrev pub type_given : List Decl → Option (ℕ × Section) → Option core_type.ValueType
type_given decls (Some (i, s)) = result_of decls s
type_given decls None = None

-- a local of the first type can take a value of the second; neither has a fault
abbrev pub can_take : Option core_type.ValueType → Option core_type.ValueType → Bool
can_take (Some t) u = is_of t u
can_take None u = false

-- ---- statements

-- the resolved form of a statement: an action, or a `return`
pub data Part : Type 0 where
  does : core.Stmt → Part
  gives : core.Return → Part

abbrev pub acts : ℕ → core.Action → Option Part
acts start action = Some (does (record { start = start; action = action }))

abbrev pub acts_if : ℕ → Option core.Action → Option Part
acts_if start (Some action) = acts start action
acts_if start None = None

-- a local is bound, unless its type is faulty
abbrev pub binds : ℕ → ℕ → Option core_type.ValueType → Option core.Expr → Option Part
binds start i (Some t) (Some e) = acts start (core.bind i e)
binds start i (Some t) None = None
binds start i None e = None

abbrev pub set_to : Target → core.Expr → core.Action
set_to (to_local i) e = core.set_local i e
set_to (to_global cell) e = core.set_global cell e
set_to (to_element number index) e = core.set_element number index e
set_to (to_field base structure field) e = core.set_field base structure field e

abbrev pub assigns : ℕ → Option Assignee → Option core.Expr → Option Part
assigns start (Some a) (Some e) = acts start (set_to a.target e)
assigns start (Some a) None = None
assigns start None e = None

abbrev pub prints : ℕ → Option core.Expr → Option Part
prints start (Some e) = acts start (core.print e)
prints start None = None

abbrev pub returns : ℕ → Option core.Expr → Option Part
returns start (Some e) = Some (gives (record { start = start; value = e }))
returns start None = None

abbrev pub repeats : ℕ → Option core.Condition → Option core.Stmts → Option Part
repeats start (Some c) (Some body) = acts start (core.while_true c body)
repeats start (Some c) None = None
repeats start None body = None

abbrev pub chooses : ℕ → Option core.Condition → Option core.Stmts → Option Part
chooses start (Some c) (Some body) = acts start (core.if_true c body)
chooses start (Some c) None = None
chooses start None body = None

abbrev pub chooses_between : ℕ → Option core.Condition → Option core.Stmts → Option core.Stmts → Option Part
chooses_between start (Some c) (Some body) (Some other) = acts start (core.if_else c body other)
chooses_between start (Some c) (Some body) None = None
chooses_between start (Some c) None other = None
chooses_between start None body other = None

-- statements, and the `return` at their end, if there is one
pub record Body : Type 0 where
  pub stmts : core.Stmts
  pub result : Option core.Return

-- a body that is only a `return`, if no statement follows
abbrev pub given_back : core.Return → core.Stmts → Option core.Return → Option Body
given_back r core.no_stmts None = Some (record { stmts = core.no_stmts; result = Some r })
given_back r core.no_stmts (Some q) = None
given_back r (core.stmt start action rest) q = None

abbrev pub preceded : Option Part → Option Body → Option Body
preceded (Some (does s)) (Some b) = Some (record { stmts = core.stmt s.start s.action b.stmts; result = b.result })
preceded (Some (gives r)) (Some b) = given_back r b.stmts b.result
preceded (Some p) None = None
preceded None b = None

-- the statements of a block without a `return`
abbrev pub block_without : core.Stmts → Option core.Return → Option core.Stmts
block_without stmts None = Some stmts
block_without stmts (Some r) = None

abbrev pub block_of : Option Body → Option core.Stmts
block_of (Some b) = block_without b.stmts b.result
block_of None = None

-- the first value of a local
abbrev pub first_value : Scope → Local → Option core.Expr
first_value sc l = as_value (fitting (want (type_of sc l.value_type)) (typed sc l.value))

-- a local with its first value
abbrev pub local_bound : Scope → Local → Option Part
local_bound sc l = binds l.start.start (length sc.locals) (type_of sc l.value_type) (first_value sc l)

-- a local with its first value, which is tested
abbrev pub owned_bound : Scope → Local → Owner → Option Part
owned_bound sc l o = binds l.start.start (length sc.locals) (type_of sc l.value_type)
    (owned_by sc (type_of sc l.value_type) o (first_value sc l))

-- a local with the result of a helper
abbrev pub called_bound : Scope → CalledLocal → Option Part
called_bound sc l =
    if can_take (type_of sc l.value_type) (type_given sc.decls (helper_meant (meaning sc l.call.helper.text)))
    then acts_if l.start.start (call_resolved sc l.call (Some (length sc.locals))) else None

abbrev mutual
  -- a statement resolved, if everything in it has a type
  pub typed_stmt : Scope → Stmt → Option Part
  typed_stmt sc (let_local l) = local_bound sc l
  typed_stmt sc (let_owned l o) = owned_bound sc l o
  typed_stmt sc (let_call l) = called_bound sc l
  typed_stmt sc (var_local l) = local_bound sc l
  typed_stmt sc (assign p e) =
      assigns (first_name p).span.start (target_of sc p) (as_value (fitting (wanted_by (target_of sc p)) (typed sc e)))
  typed_stmt sc (if_then start e body close other) =
      typed_if (left sc (after_all sc body)) start.start (test_resolved (typed sc e))
      (block_of (typed_body sc body)) other
  typed_stmt sc (while start e body close) =
      repeats start.start (test_resolved (typed sc e)) (block_of (typed_body sc body))
  typed_stmt sc (print start e) = prints start.start (number_resolved (typed sc e))
  typed_stmt sc (return_value start e) = returns start.start (as_value (fitting (want sc.result) (typed sc e)))
  typed_stmt sc (call start c) = acts_if start.start (call_resolved sc c None)

  -- an `if` by its condition and its block, and the scope after that
  pub typed_if : Scope → ℕ → Option core.Condition → Option core.Stmts → Otherwise → Option Part
  typed_if sc start c body no_else = chooses start c body
  typed_if sc start c body (else_do other close) = chooses_between start c body (block_of (typed_body sc other))

  -- statements resolved
  pub typed_body : Scope → Stmts → Option Body
  typed_body sc no_stmts = Some (record { stmts = core.no_stmts; result = None })
  typed_body sc (stmt s rest) = preceded (typed_stmt sc s) (typed_body (after sc s) rest)
