-- The code computes for statements, sections and helpers the results of the rules.
use Rattle.std.proofs.Common.{◌≡◌, ℕ, List, [], ◌∷◌, length, Option, Some, None, Bool, true, false, refl, sym, ap, ◌∙◌}
use Rattle.std.proofs.Common.{subst, if◌then◌else◌}
use Rattle.source.specs.declared.span.Span.{Span}
use Rattle.syntax.specs.Trees as tree
use Rattle.syntax.specs.Trees.{Place, Expr, Owner, HelperCall, CalledLocal, Stmt, let_local, let_owned, let_call}
use Rattle.syntax.specs.Trees.{var_local, assign, if_then, while, print, return_value, call, Stmts, no_stmts, stmt}
use Rattle.syntax.specs.Trees.{no_else, else_do, Param, Section, Decl, helper}
use Rattle.core_lang.specs.declared.value.ValueType.{ValueType}
use Rattle.core_lang.specs.declared.value.ValueType.TheVariants.{Integer}
use Rattle.resolution.specs.declared.body_limits.BodyLimits.{BodyLimits}
use Rattle.resolution.specs.declared.wanted.Sort.TheVariants.{Of}
use Rattle.resolution.specs.declared.wanted.Want.TheVariants.{Value}
use Rattle.resolution.specs.Core as core
use Rattle.resolution.specs.Scopes.{◌>>=◌, Scope, Local, outside, Meaning, a_decl, meaning, helper_meant, number_at}
use Rattle.resolution.specs.Scopes.{type_of, result_of, left}
use Rattle.resolution.specs.Expressions.{ResolvedExpr, value, truth, want}
use Rattle.resolution.specs.Constants.{want_of}
use Rattle.resolution.specs.Working.TypedConstants.{added}
use Rattle.resolution.specs.Statements.{first_name, after, after_all, entry}
use Rattle.resolution.specs.Typing.{Types, Gives, TypesOwner, TypesArguments, no_argument, one_argument, TypesCall}
use Rattle.resolution.specs.Typing.{types_call, TypesStmt, types_let, types_owned, types_let_call, types_var}
use Rattle.resolution.specs.Typing.{types_assign, types_if, types_if_else, types_while, types_print, types_call_alone}
use Rattle.resolution.specs.Typing.{TypesBody, types_none, types_return, types_next, TypesLocals, no_local, one_local}
use Rattle.resolution.specs.Typing.{TypesResult, no_result, one_result, TypesListed, TypesSection, types_section}
use Rattle.resolution.specs.Working.TypedExpressions.{fitting, as_value, number_resolved, test_resolved, typed}
use Rattle.resolution.specs.Working.TypedOwners.{is_of, owned_by}
use Rattle.resolution.specs.Working.TypedStatements.{Assignee, target_of, wanted_by, typed_values, called}
use Rattle.resolution.specs.Working.TypedStatements.{call_resolved, type_given, can_take, Part, does, gives, acts_if}
use Rattle.resolution.specs.Working.TypedStatements.{binds, assigns, prints, returns, repeats, chooses, chooses_between}
use Rattle.resolution.specs.Working.TypedStatements.{Body, given_back, preceded, block_without, block_of, typed_stmt}
use Rattle.resolution.specs.Working.TypedStatements.{typed_body}
use Rattle.resolution.specs.Working.TypedSections.{core_locals, classes_named, section_with, section_of, typed_section}
use Rattle.resolution.proofs.ListedRules.{listed_types, listed_are}
use Rattle.resolution.proofs.ExpressionRules.{When, when, number_when, test_when, expr_types, typed_is, gives_when}
use Rattle.resolution.proofs.ExpressionRules.{given_is}
use Rattle.resolution.proofs.OwnerRules.{AssignsTo, place_assigns, target_is, same_type, fits_itself, owner_types}
use Rattle.resolution.proofs.OwnerRules.{owned_is}

-- ---- the result of the code is one of the rules: calls

values_types : (sc : Scope) (p : Param) (e : Expr) (ps : List Param) (es : List Expr) (o : Option core.Expr) →
    When (Gives sc (want_of sc.decls p) e) o → (rest : Option (List core.Expr)) → When (TypesArguments sc ps es) rest →
    When (TypesArguments sc (p ∷ ps) (e ∷ es)) (added o rest)
values_types sc p e ps es None h rest k = tt
values_types sc p e ps es (Some x) h None k = tt
values_types sc p e ps es (Some x) h (Some xs) k = one_argument h k

arguments_types : (sc : Scope) (ps : List Param) (es : List Expr) →
    When (TypesArguments sc ps es) (typed_values sc ps es)
arguments_types sc [] [] = no_argument
arguments_types sc [] (e ∷ es) = tt
arguments_types sc (p ∷ ps) [] = tt
arguments_types sc (p ∷ ps) (e ∷ es) =
    values_types sc p e ps es (as_value (fitting (want_of sc.decls p) (typed sc e)))
    (gives_when sc (want_of sc.decls p) e) (typed_values sc ps es) (arguments_types sc ps es)

-- what holds of a call's action, if it does of the call of each helper that the name means
helper_called : (sc : Scope) (i : ℕ) (s : Section) (es : List Expr) (local : Option ℕ) (P : core.Action → Type 0) →
    ((xs : List core.Expr) → TypesArguments sc s.params es xs →
    P (core.call (number_at sc.decls i (helper s)) xs local)) →
    When P (called sc (Some (i, s)) es local)
helper_called sc i s es local P h = by_values (typed_values sc s.params es) (arguments_types sc s.params es)
  where
    by_values : (o : Option (List core.Expr)) → When (TypesArguments sc s.params es) o →
        When P (◌>>=◌ {B = core.Action} o (λ vs. Some (core.call (number_at sc.decls i (helper s)) vs local)))
    by_values None k = tt
    by_values (Some xs) k = h xs k

-- ---- statements

-- what a statement is, by the rules
data IsReturn (sc : Scope) : Stmt → core.Return → Type 0 where
  is_return : {start : Span} {e : Expr} {x : core.Expr} →
      Gives sc (want sc.result) e x → IsReturn sc (return_value start e) (record { start = start.start; value = x })

abbrev PartIs : Scope → Stmt → Part → Type 0
PartIs sc s (does action) = TypesStmt sc s action.start action.action
PartIs sc s (gives result) = IsReturn sc s result

abbrev BodyIs : Scope → Stmts → Body → Type 0
BodyIs sc stmts b = TypesBody sc stmts b.stmts b.result

bound_types : (sc : Scope) (s : Stmt) (start i : ℕ) (o : Option ValueType) (e : Option ValueType → Option core.Expr) →
    ((t : ValueType) → o ≡ Some t → When (λ (x : core.Expr). TypesStmt sc s start (core.bind i x)) (e (Some t))) →
    When (PartIs sc s) (binds start i o (e o))
bound_types sc s start i None e h = tt
bound_types sc s start i (Some t) e h = by_value (e (Some t)) (h t refl)
  where
    by_value : (o : Option core.Expr) → When (λ (x : core.Expr). TypesStmt sc s start (core.bind i x)) o →
        When (PartIs sc s) (binds start i (Some t) o)
    by_value None k = tt
    by_value (Some x) k = k

when_all : {A : Type 0} (P Q : A → Type 0) (o : Option A) → When P o → ((x : A) → P x → Q x) → When Q o
when_all P Q None h f = tt
when_all P Q (Some x) h f = f x h

let_types : (sc : Scope) (l : tree.Local) → When (PartIs sc (let_local l)) (typed_stmt sc (let_local l))
let_types sc l =
    bound_types sc (let_local l) l.start.start (length sc.locals) (type_of sc l.value_type)
    (λ t. as_value (fitting (want t) (typed sc l.value)))
    (λ t is. when_all (Gives sc (Value t) l.value)
    (λ (x : core.Expr). TypesStmt sc (let_local l) l.start.start (core.bind (length sc.locals) x))
    (as_value (fitting (Value t) (typed sc l.value))) (gives_when sc (Value t) l.value)
    (λ x g. types_let is g))

var_types : (sc : Scope) (l : tree.Local) → When (PartIs sc (var_local l)) (typed_stmt sc (var_local l))
var_types sc l =
    bound_types sc (var_local l) l.start.start (length sc.locals) (type_of sc l.value_type)
    (λ t. as_value (fitting (want t) (typed sc l.value)))
    (λ t is. when_all (Gives sc (Value t) l.value)
    (λ (x : core.Expr). TypesStmt sc (var_local l) l.start.start (core.bind (length sc.locals) x))
    (as_value (fitting (Value t) (typed sc l.value))) (gives_when sc (Value t) l.value)
    (λ x g. types_var is g))

owned_types : (sc : Scope) (l : tree.Local) (o : Owner) →
    When (PartIs sc (let_owned l o)) (typed_stmt sc (let_owned l o))
owned_types sc l o =
    bound_types sc (let_owned l o) l.start.start (length sc.locals) (type_of sc l.value_type)
    (λ t. owned_by sc t o (as_value (fitting (want t) (typed sc l.value))))
    (λ t is. by_value t is (as_value (fitting (Value t) (typed sc l.value))) (gives_when sc (Value t) l.value))
  where
    by_value : (t : ValueType) → type_of sc l.value_type ≡ Some t → (e : Option core.Expr) →
        When (Gives sc (Value t) l.value) e →
        When (λ (y : core.Expr). TypesStmt sc (let_owned l o) l.start.start (core.bind (length sc.locals) y))
        (owned_by sc (Some t) o e)
    by_value t is None g = tt
    by_value t is (Some x) g =
        when_all (TypesOwner sc t o x)
        (λ (y : core.Expr). TypesStmt sc (let_owned l o) l.start.start (core.bind (length sc.locals) y))
        (owned_by sc (Some t) o (Some x)) (owner_types sc t o x)
        (λ y h. types_owned is g h)

-- two types that are one
record AreOne (o u : Option ValueType) : Type 0 where
  one : ValueType
  left_is : o ≡ Some one
  right_is : u ≡ Some one

are_one : (o u : Option ValueType) → can_take o u ≡ true → AreOne o u
are_one None u e = cc
are_one (Some t) None e = cc
are_one (Some t) (Some u) e = record { one = t; left_is = refl; right_is = ap Some (same_type t u e) }

acts_types : (sc : Scope) (s : Stmt) (start : ℕ) (o : Option core.Action) → When (TypesStmt sc s start) o →
    When (PartIs sc s) (acts_if start o)
acts_types sc s start None h = tt
acts_types sc s start (Some action) h = h

let_call_types : (sc : Scope) (l : CalledLocal) → When (PartIs sc (let_call l)) (typed_stmt sc (let_call l))
let_call_types sc l = by_meaning (meaning sc l.call.helper.text) refl
  where
    by_test : (i : ℕ) (s : Section) → meaning sc l.call.helper.text ≡ a_decl i (helper s) → (b : Bool) →
        can_take (type_of sc l.value_type) (result_of sc.decls s) ≡ b →
        When (PartIs sc (let_call l))
        (if b then acts_if l.start.start (called sc (Some (i, s)) l.call.arguments (Some (length sc.locals))) else None)
    by_test i s is false e = tt
    by_test i s is true e =
        let both = are_one (type_of sc l.value_type) (result_of sc.decls s) e in
        acts_types sc (let_call l) l.start.start (called sc (Some (i, s)) l.call.arguments (Some (length sc.locals)))
        (helper_called sc i s l.call.arguments (Some (length sc.locals)) (TypesStmt sc (let_call l) l.start.start)
        (λ xs k. types_let_call (types_call is k) both.left_is both.right_is))

    no_helper : (o : Option ValueType) (b : Bool) → can_take o None ≡ b →
        When (PartIs sc (let_call l))
        (if b then acts_if l.start.start (called sc None l.call.arguments (Some (length sc.locals))) else None)
    no_helper o true e = tt
    no_helper o false e = tt

    by_meaning : (m : Meaning) → meaning sc l.call.helper.text ≡ m →
        When (PartIs sc (let_call l))
        (if can_take (type_of sc l.value_type) (type_given sc.decls (helper_meant m)) then acts_if l.start.start
        (called sc (helper_meant m) l.call.arguments (Some (length sc.locals))) else None)
    by_meaning (a_decl i (helper s)) is =
        by_test i s is (can_take (type_of sc l.value_type) (result_of sc.decls s)) refl
    by_meaning m is = no_helper (type_of sc l.value_type) (can_take (type_of sc l.value_type) None) refl

call_types : (sc : Scope) (start : Span) (c : HelperCall) →
    When (PartIs sc (call start c)) (typed_stmt sc (call start c))
call_types sc start c = by_meaning (meaning sc c.helper.text) refl
  where
    by_meaning : (m : Meaning) → meaning sc c.helper.text ≡ m →
        When (PartIs sc (call start c)) (acts_if start.start (called sc (helper_meant m) c.arguments None))
    by_meaning (a_decl i (helper s)) is =
        acts_types sc (call start c) start.start (called sc (Some (i, s)) c.arguments None)
        (helper_called sc i s c.arguments None (TypesStmt sc (call start c) start.start)
        (λ xs k. types_call_alone (types_call is k)))
    by_meaning m is = tt

assign_types : (sc : Scope) (p : Place) (e : Expr) → When (PartIs sc (assign p e)) (typed_stmt sc (assign p e))
assign_types sc p e = by_target (target_of sc p) (place_assigns sc p)
  where
    by_value : (a : Assignee) → AssignsTo sc p a → (o : Option core.Expr) → When (Gives sc (Value a.value_type) e) o →
        When (PartIs sc (assign p e)) (assigns (first_name p).span.start (Some a) o)
    by_value a h None g = tt
    by_value a h (Some x) g = types_assign h g

    by_target : (o : Option Assignee) → When (AssignsTo sc p) o →
        When (PartIs sc (assign p e))
        (assigns (first_name p).span.start o (as_value (fitting (wanted_by o) (typed sc e))))
    by_target None h = tt
    by_target (Some a) h =
        by_value a h (as_value (fitting (Value a.value_type) (typed sc e))) (gives_when sc (Value a.value_type) e)

print_types : (sc : Scope) (start : Span) (e : Expr) (o : Option core.Expr) →
    When (λ (x : core.Expr). Types sc e (value x (Of Integer))) o →
    When (PartIs sc (print start e)) (prints start.start o)
print_types sc start e None h = tt
print_types sc start e (Some x) h = types_print h

return_types : (sc : Scope) (start : Span) (e : Expr) (o : Option core.Expr) → When (Gives sc (want sc.result) e) o →
    When (PartIs sc (return_value start e)) (returns start.start o)
return_types sc start e None h = tt
return_types sc start e (Some x) h = is_return h

abbrev IsTruth : Scope → Expr → core.Condition → Type 0
IsTruth sc e c = Types sc e (truth c)

abbrev BlockIs : Scope → Stmts → core.Stmts → Type 0
BlockIs sc stmts block = TypesBody sc stmts block None

while_types : (sc : Scope) (start close : Span) (e : Expr) (body : Stmts) (c : Option core.Condition) →
    When (IsTruth sc e) c →
    (b : Option core.Stmts) → When (BlockIs sc body) b →
    When (PartIs sc (while start e body close)) (repeats start.start c b)
while_types sc start close e body None h b k = tt
while_types sc start close e body (Some c) h None k = tt
while_types sc start close e body (Some c) h (Some b) k = types_while h k

then_types : (sc : Scope) (start close : Span) (e : Expr) (body : Stmts) (c : Option core.Condition) →
    When (IsTruth sc e) c →
    (b : Option core.Stmts) → When (BlockIs sc body) b →
    When (PartIs sc (if_then start e body close no_else)) (chooses start.start c b)
then_types sc start close e body None h b k = tt
then_types sc start close e body (Some c) h None k = tt
then_types sc start close e body (Some c) h (Some b) k = types_if h k

else_types : (sc : Scope) (start close end : Span) (e : Expr) (body other : Stmts) (c : Option core.Condition) →
    When (IsTruth sc e) c →
    (b : Option core.Stmts) → When (BlockIs sc body) b → (d : Option core.Stmts) →
    When (BlockIs (left sc (after_all sc body)) other) d →
    When (PartIs sc (if_then start e body close (else_do other end))) (chooses_between start.start c b d)
else_types sc start close end e body other None h b k d q = tt
else_types sc start close end e body other (Some c) h None k d q = tt
else_types sc start close end e body other (Some c) h (Some b) k None q = tt
else_types sc start close end e body other (Some c) h (Some b) k (Some d) q = types_if_else h k q

block_types : (sc : Scope) (stmts : Stmts) (o : Option Body) → When (BodyIs sc stmts) o →
    When (BlockIs sc stmts) (block_of o)
block_types sc stmts None h = tt
block_types sc stmts (Some b) h = by_result b.stmts b.result h
  where
    by_result : (block : core.Stmts) (r : Option core.Return) → TypesBody sc stmts block r →
        When (BlockIs sc stmts) (block_without block r)
    by_result block None k = k
    by_result block (Some r) k = tt

-- what has neither a statement nor a `return` is empty
is_empty : {sc : Scope} {stmts : Stmts} {block : core.Stmts} {r : Option core.Return} → TypesBody sc stmts block r →
    block ≡ core.no_stmts → r ≡ None → stmts ≡ no_stmts
is_empty types_none e q = refl
is_empty (types_return g) e q = cc
is_empty (types_next h k) e q = cc

ends_types : {sc : Scope} {s : Stmt} {r : core.Return} → IsReturn sc s r →
    TypesBody sc (stmt s no_stmts) core.no_stmts (Some r)
ends_types (is_return g) = types_return g

given_types : (sc : Scope) (s : Stmt) (rest : Stmts) (r : core.Return) → IsReturn sc s r →
    (block : core.Stmts) (q : Option core.Return) →
    TypesBody (after sc s) rest block q → When (BodyIs sc (stmt s rest)) (given_back r block q)
given_types sc s rest r h core.no_stmts None k =
    subst (λ (ss : Stmts). TypesBody sc (stmt s ss) core.no_stmts (Some r)) (sym (is_empty k refl refl)) (ends_types h)
given_types sc s rest r h core.no_stmts (Some q) k = tt
given_types sc s rest r h (core.stmt start action block) q k = tt

next_types : (sc : Scope) (s : Stmt) (rest : Stmts) (p : Option Part) → When (PartIs sc s) p → (b : Option Body) →
    When (BodyIs (after sc s) rest) b → When (BodyIs sc (stmt s rest)) (preceded p b)
next_types sc s rest None h b k = tt
next_types sc s rest (Some (does action)) h None k = tt
next_types sc s rest (Some (gives r)) h None k = tt
next_types sc s rest (Some (does action)) h (Some b) k = types_next h k
next_types sc s rest (Some (gives r)) h (Some b) k = given_types sc s rest r h b.stmts b.result k

mutual
  stmt_types : (sc : Scope) (s : Stmt) → When (PartIs sc s) (typed_stmt sc s)
  stmt_types sc (let_local l) = let_types sc l
  stmt_types sc (let_owned l o) = owned_types sc l o
  stmt_types sc (let_call l) = let_call_types sc l
  stmt_types sc (var_local l) = var_types sc l
  stmt_types sc (assign p e) = assign_types sc p e
  stmt_types sc (if_then start e body close no_else) =
      then_types sc start close e body (test_resolved (typed sc e))
      (test_when (Types sc e) (typed sc e) (expr_types sc e)) (block_of (typed_body sc body))
      (block_types sc body (typed_body sc body) (body_types sc body))
  stmt_types sc (if_then start e body close (else_do other end)) =
      else_types sc start close end e body other (test_resolved (typed sc e))
      (test_when (Types sc e) (typed sc e) (expr_types sc e))
      (block_of (typed_body sc body)) (block_types sc body (typed_body sc body) (body_types sc body))
      (block_of (typed_body (left sc (after_all sc body)) other))
      (block_types (left sc (after_all sc body)) other (typed_body (left sc (after_all sc body)) other)
      (body_types (left sc (after_all sc body)) other))
  stmt_types sc (while start e body close) =
      while_types sc start close e body (test_resolved (typed sc e))
      (test_when (Types sc e) (typed sc e) (expr_types sc e)) (block_of (typed_body sc body))
      (block_types sc body (typed_body sc body) (body_types sc body))
  stmt_types sc (print start e) =
      print_types sc start e (number_resolved (typed sc e)) (number_when (Types sc e) (typed sc e) (expr_types sc e))
  stmt_types sc (return_value start e) =
      return_types sc start e (as_value (fitting (want sc.result) (typed sc e))) (gives_when sc (want sc.result) e)
  stmt_types sc (call start c) = call_types sc start c

  body_types : (sc : Scope) (stmts : Stmts) → When (BodyIs sc stmts) (typed_body sc stmts)
  body_types sc no_stmts = types_none
  body_types sc (stmt s rest) =
      next_types sc s rest (typed_stmt sc s) (stmt_types sc s) (typed_body (after sc s) rest)
      (body_types (after sc s) rest)

pub types_stmt : (sc : Scope) (s : Stmt) (x : core.Stmt) → typed_stmt sc s ≡ Some (does x) →
    TypesStmt sc s x.start x.action
types_stmt sc s x is = when (PartIs sc s) (typed_stmt sc s) (stmt_types sc s) (does x) is

pub types_body : (sc : Scope) (stmts : Stmts) (b : Body) → typed_body sc stmts ≡ Some b →
    TypesBody sc stmts b.stmts b.result
types_body sc stmts b is = when (BodyIs sc stmts) (typed_body sc stmts) (body_types sc stmts) b is

-- ---- a result of the rules is computed

arguments_are : {sc : Scope} {ps : List Param} {es : List Expr} {xs : List core.Expr} → TypesArguments sc ps es xs →
    typed_values sc ps es ≡ Some xs
arguments_are no_argument = refl
arguments_are {sc = sc} (one_argument {p = p} {x = x} {ps = ps} {es = es} g k) =
    ap (λ (o : Option core.Expr). added o (typed_values sc ps es)) (given_is g) ∙ ap (added (Some x)) (arguments_are k)

abbrev action_of : Scope → ℕ → Section → Option ℕ → List core.Expr → Option core.Action
action_of sc i s local xs = Some (core.call (number_at sc.decls i (helper s)) xs local)

call_is : {sc : Scope} {c : HelperCall} {s : Section} {n : ℕ} {xs : List core.Expr} (local : Option ℕ) →
    TypesCall sc c s n xs →
    call_resolved sc c local ≡ Some (core.call n xs local)
call_is {sc = sc} local (types_call {c = c} {i = i} {s = s} is k) =
    ap (λ (m : Meaning). called sc (helper_meant m) c.arguments local) is
    ∙ ap (λ (o : Option (List core.Expr)). ◌>>=◌ {B = core.Action} o (action_of sc i s local)) (arguments_are k)

given_type : {sc : Scope} {c : HelperCall} {s : Section} {n : ℕ} {xs : List core.Expr} → TypesCall sc c s n xs →
    type_given sc.decls (helper_meant (meaning sc c.helper.text)) ≡ result_of sc.decls s
given_type {sc = sc} (types_call is k) = ap (λ (m : Meaning). type_given sc.decls (helper_meant m)) is

part_of : ℕ → core.Action → Option Part
part_of start action = Some (does (record { start = start; action = action }))

mutual
  pub stmt_is : {sc : Scope} {s : Stmt} {start : ℕ} {action : core.Action} → TypesStmt sc s start action →
      typed_stmt sc s ≡ Some (does (record { start = start; action = action }))
  stmt_is {sc = sc} (types_let {l = l} {t = t} is g) =
      ap (λ (o : Option ValueType). binds l.start.start (length sc.locals) o
      (as_value (fitting (want o) (typed sc l.value)))) is
      ∙ ap (binds l.start.start (length sc.locals) (Some t)) (given_is g)
  stmt_is {sc = sc} (types_var {l = l} {t = t} is g) =
      ap (λ (o : Option ValueType). binds l.start.start (length sc.locals) o
      (as_value (fitting (want o) (typed sc l.value)))) is
      ∙ ap (binds l.start.start (length sc.locals) (Some t)) (given_is g)
  stmt_is {sc = sc} (types_owned {l = l} {o = o} {t = t} is g h) =
      ap (λ (u : Option ValueType). binds l.start.start (length sc.locals) u
      (owned_by sc u o (as_value (fitting (want u) (typed sc l.value))))) is
      ∙ ap (λ (e : Option core.Expr). binds l.start.start (length sc.locals) (Some t) (owned_by sc (Some t) o e))
      (given_is g)
      ∙ ap (binds l.start.start (length sc.locals) (Some t)) (owned_is h)
  stmt_is {sc = sc} (types_let_call {l = l} {t = t} k is result) =
      ap (λ (o : Option ValueType). if can_take o
      (type_given sc.decls (helper_meant (meaning sc l.call.helper.text))) then acts_if l.start.start
      (call_resolved sc l.call (Some (length sc.locals))) else None) is
      ∙ ap (λ (o : Option ValueType). if is_of t o then acts_if l.start.start
      (call_resolved sc l.call (Some (length sc.locals))) else None) (given_type k ∙ result)
      ∙ ap (λ (b : Bool). if b then acts_if l.start.start
      (call_resolved sc l.call (Some (length sc.locals))) else None) (fits_itself t)
      ∙ ap (acts_if l.start.start) (call_is (Some (length sc.locals)) k)
  stmt_is {sc = sc} (types_assign {p = p} {e = e} {x = x} h g) =
      let found = target_is h in
      ap (λ (o : Option Assignee). assigns (first_name p).span.start o (as_value (fitting (wanted_by o) (typed sc e))))
      found.1
      ∙ ap (λ (t : ValueType). assigns (first_name p).span.start (Some found.0)
      (as_value (fitting (Value t) (typed sc e)))) found.2
      ∙ ap (assigns (first_name p).span.start (Some found.0)) (given_is g)
      ∙ ap (λ (set : core.Expr → core.Action). Some
      (does (record { start = (first_name p).span.start; action = set x }))) found.3
  stmt_is {sc = sc} (types_if {start = start} {body = body} {c = c} h k) =
      ap (λ (r : Option ResolvedExpr). chooses start.start (test_resolved r) (block_of (typed_body sc body)))
      (typed_is h)
      ∙ ap (λ (b : Option Body). chooses start.start (Some c) (block_of b)) (body_is k)
  stmt_is {sc = sc} (types_if_else {start = start} {body = body} {other = other} {c = c} {block = block} h k q) =
      ap (λ (r : Option ResolvedExpr). chooses_between start.start (test_resolved r) (block_of (typed_body sc body))
      (block_of (typed_body (left sc (after_all sc body)) other))) (typed_is h)
      ∙ ap (λ (b : Option Body). chooses_between start.start (Some c) (block_of b)
      (block_of (typed_body (left sc (after_all sc body)) other))) (body_is k)
      ∙ ap (λ (b : Option Body). chooses_between start.start (Some c) (Some block) (block_of b)) (body_is q)
  stmt_is {sc = sc} (types_while {start = start} {body = body} {c = c} h k) =
      ap (λ (r : Option ResolvedExpr). repeats start.start (test_resolved r) (block_of (typed_body sc body)))
      (typed_is h)
      ∙ ap (λ (b : Option Body). repeats start.start (Some c) (block_of b)) (body_is k)
  stmt_is (types_print {start = start} h) =
      ap (λ (r : Option ResolvedExpr). prints start.start (number_resolved r)) (typed_is h)
  stmt_is (types_call_alone {start = start} k) = ap (acts_if start.start) (call_is None k)

  pub body_is : {sc : Scope} {stmts : Stmts} {block : core.Stmts} {r : Option core.Return} →
      TypesBody sc stmts block r →
      typed_body sc stmts ≡ Some (record { stmts = block; result = r })
  body_is types_none = refl
  body_is (types_return {start = start} g) =
      ap (λ (o : Option core.Expr). preceded (returns start.start o)
      (Some (record { stmts = core.no_stmts; result = None }))) (given_is g)
  body_is {sc = sc} (types_next {s = s} {rest = rest} {start = start} {action = action} h k) =
      ap (λ (p : Option Part). preceded p (typed_body (after sc s) rest)) (stmt_is h)
      ∙ ap (preceded (Some (does (record { start = start; action = action })))) (body_is k)

-- ---- sections and helpers

local_types : (l : Local) (ls : List Local) (t : Option ValueType) → l.value_type ≡ t →
    (rest : Option (List core.Local)) →
    When (TypesLocals ls) rest →
    When (TypesLocals (l ∷ ls))
    (added (◌>>=◌ {B = core.Local} t (λ u. Some (record { name = l.name; kind = l.kind; value_type = u }))) rest)
local_types l ls None is rest k = tt
local_types l ls (Some t) is None k = tt
local_types l ls (Some t) is (Some rest) k = one_local is k

locals_types : (ls : List Local) → When (TypesLocals ls) (core_locals ls)
locals_types [] = no_local
locals_types (l ∷ ls) = local_types l ls l.value_type refl (core_locals ls) (locals_types ls)

pub types_the_locals : (ls : List Local) (xs : List core.Local) → core_locals ls ≡ Some xs → TypesLocals ls xs
types_the_locals ls xs is = when (TypesLocals ls) (core_locals ls) (locals_types ls) xs is

pub locals_are : {ls : List Local} {rest : List core.Local} → TypesLocals ls rest → core_locals ls ≡ Some rest
locals_are no_local = refl
locals_are (one_local {l = l} {t = t} {ls = ls} is k) =
    ap (λ (o : Option ValueType). added
    (◌>>=◌ {B = core.Local} o (λ u. Some (record { name = l.name; kind = l.kind; value_type = u }))) (core_locals ls))
    is
    ∙ ap (added (Some (record { name = l.name; kind = l.kind; value_type = t }))) (locals_are k)

-- a section by its parts
abbrev section_by : Section → List core.Local → List ℕ → core.Stmts → Option core.Return → Option ValueType →
    core.Section
section_by s locals classes body r t =
    record {
      name = s.name.text;
      parameters = length s.params;
      locals = locals;
      result_type = t;
      listed = classes;
      body = body;
      result =
          r;
    }

with_types : (decls : List Decl) (s : Section) (locals : List core.Local) (classes : List ℕ) (body : core.Stmts)
    (w : Option tree.ValueType) (r : Option core.Return)
    (P : core.Section → Type 0) →
    ((t : Option ValueType) → TypesResult decls w r t → P (section_by s locals classes body r t)) →
    When P (section_with decls s locals classes body w r)
with_types decls s locals classes body None None P h = h None no_result
with_types decls s locals classes body None (Some r) P h = tt
with_types decls s locals classes body (Some w) None P h = tt
with_types decls s locals classes body (Some w) (Some r) P h = by_type (type_of (outside decls) w) refl
  where
    by_type : (o : Option ValueType) → type_of (outside decls) w ≡ o →
        When P (◌>>=◌ {B = core.Section} o (λ t. Some (section_by s locals classes body (Some r) (Some t))))
    by_type None e = tt
    by_type (Some t) e = h (Some t) (one_result e)

section_types : (decls : List Decl) (limits : BodyLimits) (s : Section) →
    When (TypesSection decls limits s) (typed_section decls limits s)
section_types decls limits s =
    by_parts (core_locals (after_all (entry decls limits s) s.body.stmts).locals)
    (locals_types (after_all (entry decls limits s) s.body.stmts).locals)
    (typed_body (entry decls limits s) s.body.stmts) (body_types (entry decls limits s) s.body.stmts)
  where
    by_parts : (ls : Option (List core.Local)) →
        When (TypesLocals (after_all (entry decls limits s) s.body.stmts).locals) ls → (b : Option Body) →
        When (BodyIs (entry decls limits s) s.body.stmts) b →
        When (TypesSection decls limits s) (section_of decls s ls b)
    by_parts None h b k = tt
    by_parts (Some ls) h None k = tt
    by_parts (Some ls) h (Some b) k = by_classes (classes_named decls s.listed) (listed_types decls s.listed)
      where
        by_classes : (cs : Option (List ℕ)) → When (TypesListed decls s.listed) cs →
            When (TypesSection decls limits s) (◌>>=◌ {B = core.Section} cs
            (λ classes. section_with decls s ls classes b.stmts s.result b.result))
        by_classes None l = tt
        by_classes (Some cs) l =
            with_types decls s ls cs b.stmts s.result b.result (TypesSection decls limits s)
            (λ t q. types_section k q l h)

pub types_the_section : (decls : List Decl) (limits : BodyLimits) (s : Section) (x : core.Section) →
    typed_section decls limits s ≡ Some x →
    TypesSection decls limits s x
types_the_section decls limits s x is =
    when (TypesSection decls limits s) (typed_section decls limits s) (section_types decls limits s) x is

with_is : {decls : List Decl} {w : Option tree.ValueType} {r : Option core.Return} {t : Option ValueType} (s : Section)
    (locals : List core.Local) (classes : List ℕ) (body : core.Stmts) →
    TypesResult decls w r t → section_with decls s locals classes body w r ≡ Some (section_by s locals classes body r t)
with_is s locals classes body no_result = refl
with_is s locals classes body (one_result {r = r} is) =
    ap (λ (o : Option ValueType). ◌>>=◌ {B = core.Section} o
    (λ t. Some (section_by s locals classes body (Some r) (Some t))))
    is

pub section_is : {decls : List Decl} {limits : BodyLimits} {s : Section} {x : core.Section} →
    TypesSection decls limits s x →
    typed_section decls limits s ≡ Some x
section_is {decls = decls} {limits = limits}
    (types_section {s = s} {locals = locals} {stmts = stmts} {r = r} {classes = classes} k q l h) =
    ap (λ (ls : Option (List core.Local)). section_of decls s ls (typed_body (entry decls limits s) s.body.stmts))
    (locals_are h)
    ∙ ap (section_of decls s (Some locals)) (body_is k)
    ∙ ap (λ (cs : Option (List ℕ)). ◌>>=◌ {B = core.Section} cs
    (λ ns. section_with decls s locals ns stmts s.result r)) (listed_are l)
    ∙ with_is s locals classes stmts q
