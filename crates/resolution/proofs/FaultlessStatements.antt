-- Statements without a listed fault are resolved.
use Rattle.std.proofs.Common.{◌≡◌, ℕ, zero, suc, List, [], ◌∷◌, ◌++◌, length, Option, Some, None, Bool, true, false}
use Rattle.std.proofs.Common.{◌⊎◌, inl, inr, refl, sym, ap, ◌∙◌, subst, if◌then◌else◌}
use Rattle.std.specs.Prelude.{not, is_some, slice_get}
use Rattle.source.specs.declared.span.Span.{Span}
use Rattle.source.specs.declared.fault.Code.TheVariants.{UnknownName, WrongType, NotAssignable, LockAsValue}
use Rattle.syntax.specs.Trees.{Ident, ValueType, Place, lone, element, path, Expr, Local, Owner, HelperCall}
use Rattle.syntax.specs.Trees.{CalledLocal, Stmt, let_local, let_owned, let_call, var_local, assign, if_then, while}
use Rattle.syntax.specs.Trees.{print, return_value, call, Stmts, no_stmts, stmt, Otherwise, no_else, else_do, Decl}
use Rattle.syntax.specs.Trees.{lock, struct, global, array, pool, init, atomic, helper, thread}
use Rattle.syntax.specs.Returns.{IsReturn, is_return, HasReturn, this_returns, returns_inside, later_returns}
use Rattle.syntax.specs.Returns.{HasReturnInside, in_then, in_else, in_while, HasStrayReturn, this_early, stray_inside}
use Rattle.syntax.specs.Returns.{later_stray, EndsInReturn, last_returns, ends_later}
use Rattle.core_lang.specs.declared.value.ValueType as core_type
use Rattle.core_lang.specs.declared.value.ValueType.TheVariants.{Integer}
use Rattle.core_lang.specs.declared.tree.LocalKind.{LocalKind}
use Rattle.core_lang.specs.declared.tree.LocalKind.TheVariants as kind
use Rattle.resolution.specs.declared.wanted.Want.TheVariants.{Condition, Value}
use Rattle.resolution.specs.Core as core
use Rattle.resolution.specs.Scopes as scope
use Rattle.resolution.specs.Scopes.{Scope, outside, Meaning, a_local, a_decl, nothing, meaning, helper_meant, number_at}
use Rattle.resolution.specs.Scopes.{has_type, type_of, bound, hidden, hidden_from, left}
use Rattle.resolution.specs.Expressions.{want, Walk, reached, walk_from, local_path, cell_of}
use Rattle.resolution.specs.Working.TypedExpressions.{fitting, as_value, typed}
use Rattle.resolution.specs.Working.TypedStatements.{Target, to_local, to_global, to_element, to_field, Assignee}
use Rattle.resolution.specs.Working.TypedStatements.{assignee}
use Rattle.resolution.specs.Statements.{is_var}
use Rattle.resolution.specs.Working.TypedStatements.{assignee_at, assignee_at_element, Split, last_field, field_target}
use Rattle.resolution.specs.Working.TypedStatements.{assignee_along, target_of, wanted_by, Part, does, gives, binds}
use Rattle.resolution.specs.Statements.{first_name}
use Rattle.resolution.specs.Working.TypedStatements.{set_to, assigns, prints, returns, repeats, chooses_between, Body}
use Rattle.resolution.specs.Working.TypedStatements.{preceded, block_of, call_resolved, acts_if, called_bound}
use Rattle.resolution.specs.Statements.{after, after_else, after_all}
use Rattle.resolution.specs.Working.TypedStatements.{first_value, typed_stmt, typed_if, typed_body}
use Rattle.resolution.specs.Working.TypedOwners.{owned_by}
use Rattle.resolution.specs.Where.{of_global, of_array}
use Rattle.resolution.specs.declared.why.Why.TheVariants as why
use Rattle.resolution.specs.declared.why.Role.TheVariants as role
use Rattle.resolution.specs.Working.Findings.{told}
use Rattle.resolution.specs.Working.FaultLists.{misnamed, type_faults, no_elements, path_faults, wanted_faults}
use Rattle.resolution.specs.Working.FaultLists.{local_faults, no_target, no_array, final_faults, target_faults}
use Rattle.resolution.specs.Working.FaultLists.{binding_faults, owner_faults, helper_call_faults, given_back_faults}
use Rattle.resolution.specs.Working.FaultLists.{called_faults, stmt_faults, else_faults, stmts_faults}
use Rattle.resolution.proofs.FaultlessExpressions.{NoneIn, none_left, none_right, not_one, not_found, is_there, Clean}
use Rattle.resolution.proofs.FaultlessExpressions.{Typing, type_is, known, AllTyped, Context, IsKnown, meaning_known}
use Rattle.resolution.proofs.FaultlessExpressions.{decl_typed, unfit_not, Path, path_is}
use Rattle.resolution.proofs.FaultlessResolvedExprs.{value_is, test_is}
use Rattle.resolution.proofs.FaultlessOwners.{room, owned_is}
use Rattle.resolution.proofs.FaultlessCalls.{call_resolves, given_back_fits}
use Rattle.resolution.specs.Theory.Facts.{after_result}
use Rattle.resolution.specs.Theory.Blocks.{after_decls, all_decls}

-- ---- the left side of an assignment

abbrev Assignees : Option Assignee → Type 0
Assignees o = (a : Assignee) × (o ≡ Some a)

assignee_is : (t : Target) (o : Option core_type.ValueType) (v : core_type.ValueType) → o ≡ Some v →
    Assignees (assignee (Some t) o)
assignee_is t o v is = (record { target = t; value_type = v }, ap (assignee (Some t)) is)

var_if : (decls : List Decl) (p n : ℕ) (l : scope.Local) (b : Bool) → Typing decls l.value_type →
    NoneIn (if b then [] else misnamed decls NotAssignable role.Target p (a_local n l)) →
    Assignees (if b then assignee (Some (to_local n)) l.value_type else None)
var_if decls p n l true t none = assignee_is (to_local n) l.value_type t.value_type t.is
var_if decls p n l false t none = absurd (unfit_not decls NotAssignable p _ (a_local n l) (ap is_some t.is) none)

assignee_name : (decls : List Decl) → Clean decls → (p : ℕ) (x : Meaning) → IsKnown decls x →
    NoneIn (no_target decls p x) → Assignees (assignee_at decls x)
assignee_name decls clean p (a_local n l) k none = var_if decls p n l (is_var l.kind) k none
assignee_name decls clean p (a_decl n (global v)) k none = let t = known decls clean (outside decls) v.value_type (of_global k) in assignee_is (to_global (cell_of decls n)) (type_of (outside decls) v.value_type) t.value_type t.is
assignee_name decls clean p (a_decl n (lock y)) k none = absurd (not_one LockAsValue p none)
assignee_name decls clean p (a_decl n (struct s)) k none = absurd (not_one NotAssignable p none)
assignee_name decls clean p (a_decl n (array a)) k none = absurd (unfit_not decls NotAssignable p _ (a_decl n (array a)) (decl_typed decls clean n (array a) k) none)
assignee_name decls clean p (a_decl n (pool q)) k none = absurd (unfit_not decls NotAssignable p _ (a_decl n (pool q)) (decl_typed decls clean n (pool q) k) none)
assignee_name decls clean p (a_decl n (init j)) k none = absurd (not_one NotAssignable p none)
assignee_name decls clean p (a_decl n (atomic s)) k none = absurd (not_one NotAssignable p none)
assignee_name decls clean p (a_decl n (helper s)) k none = absurd (not_one NotAssignable p none)
assignee_name decls clean p (a_decl n (thread t)) k none = absurd (not_one NotAssignable p none)
assignee_name decls clean p nothing k none = absurd (not_one UnknownName p none)

assignee_element : (decls : List Decl) → Clean decls → (p : ℕ) (x : Meaning) (index : core.Expr) → IsKnown decls x →
    NoneIn (no_elements decls p x) → NoneIn (no_array decls p x) →
    Assignees (assignee_at_element decls x (Some index))
assignee_element decls clean p (a_local n l) index k none other = let t : has_type decls (a_local n l) ≡ true = ap is_some k.is in absurd (unfit_not decls WrongType p _ (a_local n l) t none)
assignee_element decls clean p (a_decl n (array a)) index k none other =
    let t = known decls clean (outside decls) a.value_type (of_array k) in assignee_is (to_element (number_at decls n (array a)) index) (type_of (outside decls) a.value_type) t.value_type t.is
assignee_element decls clean p (a_decl n (pool q)) index k none other = absurd (unfit_not decls NotAssignable p _ (a_decl n (pool q)) (decl_typed decls clean n (pool q) k) other)
assignee_element decls clean p (a_decl n (lock y)) index k none other = absurd (not_one WrongType p none)
assignee_element decls clean p (a_decl n (struct s)) index k none other = absurd (not_one WrongType p none)
assignee_element decls clean p (a_decl n (global v)) index k none other = absurd (unfit_not decls WrongType p _ (a_decl n (global v)) (decl_typed decls clean n (global v) k) none)
assignee_element decls clean p (a_decl n (init j)) index k none other = absurd (not_one WrongType p none)
assignee_element decls clean p (a_decl n (atomic s)) index k none other = absurd (not_one WrongType p none)
assignee_element decls clean p (a_decl n (helper s)) index k none other = absurd (not_one WrongType p none)
assignee_element decls clean p (a_decl n (thread t)) index k none other = absurd (not_one WrongType p none)
assignee_element decls clean p nothing index k none other = absurd (not_one UnknownName p none)

field_assignee : (p n : ℕ) (o : Option Split) (s : Split) (t : core_type.ValueType) → o ≡ Some s →
    Assignees (assignee (field_target p n o) (Some t))
field_assignee p n o s t is = (record { target = to_field (local_path p n s.base) s.structure s.field; value_type = t }, ap (λ (x : Option Split). assignee (field_target p n x) (Some t)) is)

assignee_path : (decls : List Decl) (p : ℕ) (x : Meaning) (fs : List Ident) → Path decls x fs →
    NoneIn (final_faults p (walk_from decls x fs)) → Assignees (assignee_along p x (walk_from decls x fs))
assignee_path decls p x fs r none =
    let steps = r.arrives.steps in
    let t = r.arrives.value_type in
    let last = is_there (last_field steps) (not_found (not (is_some (last_field steps))) (told NotAssignable p why.FinalTarget) (subst (λ (w : Walk). NoneIn (final_faults p w)) r.arrives.is none)) in
    let a = field_assignee p r.number (last_field steps) last.0 t last.1 in
    (a.0, ap (assignee_along p x) r.arrives.is ∙ ap (λ (y : Meaning). assignee_along p y (reached steps t)) r.is ∙ a.1)

target_is : (sc : Scope) → Context sc → (p : Place) → NoneIn (target_faults sc p) → Assignees (target_of sc p)
target_is sc c (lone x) none = assignee_name sc.decls c.clean x.span.start (meaning sc x.text) (meaning_known sc c x.text) none
target_is sc c (element x e) none =
    let a = no_elements sc.decls x.span.start (meaning sc x.text) in
    let b = no_array sc.decls x.span.start (meaning sc x.text) in
    let n2 = none_left (a ++ b) (wanted_faults sc (Value Integer) e) none in
    let i = value_is sc c Integer e (none_right (a ++ b) (wanted_faults sc (Value Integer) e) none) in
    let t = assignee_element sc.decls c.clean x.span.start (meaning sc x.text) i.0 (meaning_known sc c x.text) (none_left a b n2) (none_right a b n2) in
    (t.0, ap (assignee_at_element sc.decls (meaning sc x.text)) i.1 ∙ t.1)
target_is sc c (path x fs) none =
    let a = path_faults sc.decls x.span.start (meaning sc x.text) fs in
    let b = final_faults x.span.start (walk_from sc.decls (meaning sc x.text) fs) in
    assignee_path sc.decls x.span.start (meaning sc x.text) fs (path_is sc.decls c.clean x.span.start (meaning sc x.text) fs (meaning_known sc c x.text) (none_left a b none)) (none_right a b none)

-- ---- scopes

slice_push : {A : Type 0} (xs : List A) (y l : A) (n : ℕ) → slice_get (xs ++ y ∷ []) n ≡ Some l →
    (slice_get xs n ≡ Some l) ⊎ (y ≡ l)
slice_push [] y l zero e = inr cc
slice_push [] y l (suc n) e = cc
slice_push (x ∷ xs) y l zero e = inl e
slice_push (x ∷ xs) y l (suc n) e = slice_push xs y l n e

pub typed_push : (decls : List Decl) (ls : List scope.Local) (x : scope.Local) → AllTyped decls ls →
    Typing decls x.value_type → AllTyped decls (ls ++ x ∷ [])
typed_push decls ls x all t n l e = elim (slice_push ls x l n e) [ inl h ↦ all n l h | inr s ↦ subst (λ (y : scope.Local). Typing decls y.value_type) s t ]

pub typed_hidden : (decls : List Decl) (k : ℕ) (ls : List scope.Local) → AllTyped decls ls →
    AllTyped decls (hidden_from k ls)
typed_hidden decls k [] all n l e = cc
typed_hidden decls zero (x ∷ xs) all zero l e = let s : hidden x ≡ l = cc in subst (λ (y : scope.Local). Typing decls y.value_type) s (all 0 x refl)
typed_hidden decls zero (x ∷ xs) all (suc n) l e = typed_hidden decls zero xs (λ j y h. all (suc j) y h) n l e
typed_hidden decls (suc k) (x ∷ xs) all zero l e = let s : x ≡ l = cc in subst (λ (y : scope.Local). Typing decls y.value_type) s (all 0 x refl)
typed_hidden decls (suc k) (x ∷ xs) all (suc n) l e = typed_hidden decls k xs (λ j y h. all (suc j) y h) n l e

pub left_context : (sc end : Scope) → Context sc → Context end → end.decls ≡ sc.decls → Context (left sc end)
left_context sc end c d same = record { clean = c.clean; few = c.few; locals = subst (λ (ds : List Decl). AllTyped ds (hidden_from (length sc.locals) end.locals)) same (typed_hidden end.decls (length sc.locals) end.locals d.locals) }

bound_context : (sc : Scope) → Context sc → (k : LocalKind) (x : Ident) (t : ValueType) → NoneIn (type_faults sc t) →
    Context (bound sc k x (type_of sc t))
bound_context sc c k x t none = record {
  clean = c.clean;
  few = c.few;
  locals = typed_push sc.decls sc.locals (record { name = x.text; kind = k; value_type = type_of sc t; is_visible = true }) c.locals (type_is sc t none);
}

-- what is listed for a local's parts
local_parts : (sc : Scope) (l : Local) →
    NoneIn (local_faults sc l.name ++ type_faults sc l.value_type ++ wanted_faults sc (want (type_of sc l.value_type)) l.value) → NoneIn (type_faults sc l.value_type) × NoneIn (wanted_faults sc (want (type_of sc l.value_type)) l.value)
local_parts sc l none =
    let a = local_faults sc l.name in
    let b = type_faults sc l.value_type in
    (none_right a b (none_left (a ++ b) (wanted_faults sc (want (type_of sc l.value_type)) l.value) none), none_right (a ++ b) (wanted_faults sc (want (type_of sc l.value_type)) l.value) none)

-- and for those of a `let` of a call
record CalledParts (sc : Scope) (l : CalledLocal) : Type 0 where
  types : NoneIn (type_faults sc l.value_type)
  given : NoneIn (given_back_faults sc.decls l.call.helper.span.start (type_of sc l.value_type) (helper_meant (meaning sc l.call.helper.text)))
  passed : NoneIn (helper_call_faults sc l.call)

called_parts : (sc : Scope) (l : CalledLocal) → NoneIn (called_faults sc l) → CalledParts sc l
called_parts sc l none =
    let a = local_faults sc l.name in
    let b = type_faults sc l.value_type in
    let g = given_back_faults sc.decls l.call.helper.span.start (type_of sc l.value_type) (helper_meant (meaning sc l.call.helper.text)) in
    let d = helper_call_faults sc l.call in
    record {
      types = none_right a b (none_left (a ++ b) g (none_left (a ++ b ++ g) d none));
      given = none_right (a ++ b) g (none_left (a ++ b ++ g) d none);
      passed = none_right (a ++ b ++ g) d none;
    }

mutual
  pub after_context : (sc : Scope) → Context sc → (s : Stmt) → NoneIn (stmt_faults sc s) → Context (after sc s)
  after_context sc c (let_local l) none = bound_context sc c kind.Let l.name l.value_type (local_parts sc l none).0
  after_context sc c (let_owned l o) none = bound_context sc c kind.Let l.name l.value_type (local_parts sc l (none_left (binding_faults sc l) (owner_faults sc (type_of sc l.value_type) o) none)).0
  after_context sc c (let_call l) none = bound_context sc c kind.Let l.name l.value_type (called_parts sc l none).types
  after_context sc c (var_local l) none = bound_context sc c kind.Var l.name l.value_type (local_parts sc l none).0
  after_context sc c (assign p e) none = c
  after_context sc c (if_then start e body close other) none =
      let a = wanted_faults sc Condition e in
      let b = stmts_faults sc body in
      let d = else_faults (left sc (after_all sc body)) other in
      else_context (left sc (after_all sc body)) (left_context sc (after_all sc body) c (all_context sc c body (none_right a b (none_left (a ++ b) d none))) (all_decls sc body)) other (none_right (a ++ b) d none)
  after_context sc c (while start e body close) none =
      left_context sc (after_all sc body) c (all_context sc c body (none_right (wanted_faults sc Condition e) (stmts_faults sc body) none)) (all_decls sc body)
  after_context sc c (print start e) none = c
  after_context sc c (return_value start e) none = c
  after_context sc c (call start d) none = c

  else_context : (sc : Scope) → Context sc → (o : Otherwise) → NoneIn (else_faults sc o) → Context (after_else sc o)
  else_context sc c no_else none = c
  else_context sc c (else_do body close) none = left_context sc (after_all sc body) c (all_context sc c body none) (all_decls sc body)

  pub all_context : (sc : Scope) → Context sc → (ss : Stmts) → NoneIn (stmts_faults sc ss) → Context (after_all sc ss)
  all_context sc c no_stmts none = c
  all_context sc c (stmt s rest) none =
      all_context (after sc s) (after_context sc c s (none_left (stmt_faults sc s) (stmts_faults (after sc s) rest) none)) rest (none_right (stmt_faults sc s) (stmts_faults (after sc s) rest) none)

-- ---- statements

abbrev IsReturning : Stmt → Type 0
IsReturning (return_value start e) = Unit {0}
IsReturning (let_local l) = ⊥
IsReturning (let_owned l o) = ⊥
IsReturning (let_call l) = ⊥
IsReturning (var_local l) = ⊥
IsReturning (assign p e) = ⊥
IsReturning (if_then start e body close other) = ⊥
IsReturning (while start e body close) = ⊥
IsReturning (print start e) = ⊥
IsReturning (call start c) = ⊥

returning : (s : Stmt) → IsReturning s → (at : ℕ) × IsReturn s at
returning (return_value start e) h = (start.start, is_return)
returning (let_local l) h = absurd h
returning (let_owned l o) h = absurd h
returning (let_call l) h = absurd h
returning (var_local l) h = absurd h
returning (assign p e) h = absurd h
returning (if_then start e body close other) h = absurd h
returning (while start e body close) h = absurd h
returning (print start e) h = absurd h
returning (call start c) h = absurd h

not_returning : (s : Stmt) (at : ℕ) → IsReturn s at → IsReturning s
not_returning s at is_return = tt

-- it does something, or it is a `return`
abbrev Acts : Stmt → Option Part → Type 0
Acts s o = ((x : core.Stmt) × (IsReturning s → ⊥) × (o ≡ Some (does x))) ⊎ ((r : core.Return) × IsReturning s × (o ≡ Some (gives r)))

-- a block with no `return` in it
abbrev Blocks : Option Body → Type 0
Blocks o = (x : core.Stmts) × (o ≡ Some (record { stmts = x; result = None }))

bind_acts : (start n : ℕ) (o : Option core_type.ValueType) (t : core_type.ValueType) (v : Option core.Expr) (e : core.Expr) → o ≡ Some t → v ≡ Some e → (x : core.Stmt) × (binds start n o v ≡ Some (does x))
bind_acts start n o t v e a b = (record { start = start; action = core.bind n e }, ap (λ (y : Option core_type.ValueType). binds start n y v) a ∙ ap (binds start n (Some t)) b)

-- the value of a typed local
local_value : (sc : Scope) → Context sc → (o : Option core_type.ValueType) → Typing sc.decls o → (e : Expr) →
    NoneIn (wanted_faults sc (want o) e) → (x : core.Expr) × (as_value (fitting (want o) (typed sc e)) ≡ Some x)
local_value sc c o t e none =
    let v = value_is sc c t.value_type e (subst (λ (y : Option core_type.ValueType). NoneIn (wanted_faults sc (want y) e)) t.is none) in
    (v.0, ap (λ (y : Option core_type.ValueType). as_value (fitting (want y) (typed sc e))) t.is ∙ v.1)

local_acts : (sc : Scope) → Context sc → (l : Local) →
    NoneIn (local_faults sc l.name ++ type_faults sc l.value_type ++ wanted_faults sc (want (type_of sc l.value_type)) l.value) →
    (x : core.Stmt) × (binds l.start.start (length sc.locals) (type_of sc l.value_type) (as_value (fitting (want (type_of sc l.value_type)) (typed sc l.value))) ≡ Some (does x))
local_acts sc c l none =
    let parts = local_parts sc l none in
    let t = type_is sc l.value_type parts.0 in
    let v = local_value sc c (type_of sc l.value_type) t l.value parts.1 in
    bind_acts l.start.start (length sc.locals) (type_of sc l.value_type) t.value_type (as_value (fitting (want (type_of sc l.value_type)) (typed sc l.value))) v.0 t.is v.1

owned_acts : (sc : Scope) → Context sc → (l : Local) (o : Owner) →
    NoneIn (binding_faults sc l ++ owner_faults sc (type_of sc l.value_type) o) →
    (x : core.Stmt) × (typed_stmt sc (let_owned l o) ≡ Some (does x))
owned_acts sc c l o none =
    let t = type_of sc l.value_type in
    let plain = none_left (binding_faults sc l) (owner_faults sc t o) none in
    let parts = local_parts sc l plain in
    let typing = type_is sc l.value_type parts.0 in
    let v = local_value sc c t typing l.value parts.1 in
    let few = room sc l.name (none_left (local_faults sc l.name) (type_faults sc l.value_type) (none_left (local_faults sc l.name ++ type_faults sc l.value_type) (wanted_faults sc (want t) l.value) plain)) in
    let y = owned_is sc c few t typing o (none_right (binding_faults sc l) (owner_faults sc t o) none) (first_value sc l) v.0 v.1 in
    bind_acts l.start.start (length sc.locals) t typing.value_type (owned_by sc t o (first_value sc l)) y.0 typing.is y.1

called_acts : (sc : Scope) → Context sc → (l : CalledLocal) → NoneIn (called_faults sc l) →
    (x : core.Stmt) × (called_bound sc l ≡ Some (does x))
called_acts sc c l none =
    let parts = called_parts sc l none in
    let fits = given_back_fits sc c l.call (type_of sc l.value_type) (type_is sc l.value_type parts.types) parts.given parts.passed in
    let x = call_resolves sc c l.call (Some (length sc.locals)) parts.passed in (
      record { start = l.start.start; action = x.0 },
      ap (λ (b : Bool). if b then acts_if l.start.start (call_resolved sc l.call (Some (length sc.locals))) else None) fits ∙ ap (acts_if l.start.start) x.1,
    )

call_acts : (sc : Scope) → Context sc → (start : ℕ) (d : HelperCall) → NoneIn (helper_call_faults sc d) →
    (x : core.Stmt) × (acts_if start (call_resolved sc d None) ≡ Some (does x))
call_acts sc c start d none = let x = call_resolves sc c d None none in (record { start = start; action = x.0 }, ap (acts_if start) x.1)

assign_acts : (sc : Scope) → Context sc → (p : Place) (e : Expr) →
    NoneIn (target_faults sc p ++ wanted_faults sc (wanted_by (target_of sc p)) e) →
    (x : core.Stmt) × (typed_stmt sc (assign p e) ≡ Some (does x))
assign_acts sc c p e none =
    let a = target_is sc c p (none_left (target_faults sc p) (wanted_faults sc (wanted_by (target_of sc p)) e) none) in
    let v = value_is sc c a.0.value_type e (subst (λ (y : Option Assignee). NoneIn (wanted_faults sc (wanted_by y) e)) a.1 (none_right (target_faults sc p) (wanted_faults sc (wanted_by (target_of sc p)) e) none)) in (
      record { start = (first_name p).span.start; action = set_to a.0.target v.0 },
      ap (λ (y : Option Assignee). assigns (first_name p).span.start y (as_value (fitting (wanted_by y) (typed sc e)))) a.1 ∙ ap (assigns (first_name p).span.start (Some a.0)) v.1,
    )

block_is : (o : Option Body) (x : core.Stmts) → o ≡ Some (record { stmts = x; result = None }) → block_of o ≡ Some x
block_is o x is = ap block_of is

-- the result type of a section, if it has one, is a type of the program
abbrev pub HasResult : Scope → Type 0
HasResult sc = Typing sc.decls sc.result

-- a `return` is in the block after `else`
abbrev InElse : Otherwise → ℕ → Type 0
InElse no_else at = ⊥
InElse (else_do body close) at = HasReturn body at

otherwise_inside : {start close : Span} {e : Expr} {body : Stmts} {o : Otherwise} {at : ℕ} → InElse o at →
    HasReturnInside (if_then start e body close o) at
otherwise_inside {o = no_else} h = absurd h
otherwise_inside {o = else_do other end} h = in_else h

block_more : (s : Stmt) (rest : Stmts) → ((at : ℕ) → HasReturn (stmt s rest) at → ⊥) →
    (o : Option Part) (r : Option Body) → Acts s o → Blocks r → Blocks (preceded o r)
block_more s rest inner o r (inl a) b =
    (core.stmt a.0.start a.0.action b.0, ap (λ (x : Option Part). preceded x r) a.2 ∙ ap (preceded (Some (does a.0))) b.1)
block_more s rest inner o r (inr a) b = absurd (let q = returning s a.1 in inner q.0 (this_returns q.1))

mutual
  stmt_is : (sc : Scope) → Context sc → (s : Stmt) → NoneIn (stmt_faults sc s) →
      ((at : ℕ) → HasReturnInside s at → ⊥) → (IsReturning s → HasResult sc) → Acts s (typed_stmt sc s)
  stmt_is sc c (let_local l) none inner result = let r = local_acts sc c l none in inl (r.0, (λ h. h), r.1)
  stmt_is sc c (let_owned l o) none inner result = let r = owned_acts sc c l o none in inl (r.0, (λ h. h), r.1)
  stmt_is sc c (let_call l) none inner result = let r = called_acts sc c l none in inl (r.0, (λ h. h), r.1)
  stmt_is sc c (var_local l) none inner result = let r = local_acts sc c l none in inl (r.0, (λ h. h), r.1)
  stmt_is sc c (assign p e) none inner result = let r = assign_acts sc c p e none in inl (r.0, (λ h. h), r.1)
  stmt_is sc c (if_then start e body close other) none inner result =
      let a = wanted_faults sc Condition e in
      let b = stmts_faults sc body in
      let d = else_faults (left sc (after_all sc body)) other in
      let n2 = none_left (a ++ b) d none in
      let t = test_is sc c e (none_left a b n2) in
      let x = block_body sc c body (none_right a b n2) (λ at h. inner at (in_then h)) in
      let r = if_is (left sc (after_all sc body)) (left_context sc (after_all sc body) c (all_context sc c body (none_right a b n2)) (all_decls sc body)) start.start t.0 x.0 other (none_right (a ++ b) d none) (λ at h. inner at (otherwise_inside h)) in
      inl (
        r.0,
        (λ h. h),
        ap (λ (y : Option core.Condition). typed_if (left sc (after_all sc body)) start.start y (block_of (typed_body sc body)) other) t.1
            ∙ ap (λ (y : Option core.Stmts). typed_if (left sc (after_all sc body)) start.start (Some t.0) y other) (block_is (typed_body sc body) x.0 x.1) ∙ r.1,
      )
  stmt_is sc c (while start e body close) none inner result =
      let a = wanted_faults sc Condition e in
      let b = stmts_faults sc body in
      let t = test_is sc c e (none_left a b none) in
      let x = block_body sc c body (none_right a b none) (λ at h. inner at (in_while h)) in
      inl (record { start = start.start; action = core.while_true t.0 x.0 }, (λ h. h), ap (λ (y : Option core.Condition). repeats start.start y (block_of (typed_body sc body))) t.1 ∙ ap (repeats start.start (Some t.0)) (block_is (typed_body sc body) x.0 x.1))
  stmt_is sc c (print start e) none inner result =
      let v = value_is sc c Integer e none in
      inl (record { start = start.start; action = core.print v.0 }, (λ h. h), ap (prints start.start) v.1)
  stmt_is sc c (return_value start e) none inner result =
      let v = local_value sc c sc.result (result tt) e none in
      inr (record { start = start.start; value = v.0 }, tt, ap (returns start.start) v.1)
  stmt_is sc c (call start d) none inner result = let r = call_acts sc c start.start d none in inl (r.0, (λ h. h), r.1)

  if_is : (sc : Scope) → Context sc → (start : ℕ) (t : core.Condition) (x : core.Stmts) (o : Otherwise) →
      NoneIn (else_faults sc o) → ((at : ℕ) → InElse o at → ⊥) →
      (r : core.Stmt) × (typed_if sc start (Some t) (Some x) o ≡ Some (does r))
  if_is sc c start t x no_else none inner = (record { start = start; action = core.if_true t x }, refl)
  if_is sc c start t x (else_do body close) none inner =
      let y = block_body sc c body none inner in
      (record { start = start; action = core.if_else t x y.0 }, ap (chooses_between start (Some t) (Some x)) (block_is (typed_body sc body) y.0 y.1))

  -- statements without a `return`
  block_body : (sc : Scope) → Context sc → (ss : Stmts) → NoneIn (stmts_faults sc ss) →
      ((at : ℕ) → HasReturn ss at → ⊥) → Blocks (typed_body sc ss)
  block_body sc c no_stmts none inner = (core.no_stmts, refl)
  block_body sc c (stmt s rest) none inner =
      let n = none_left (stmt_faults sc s) (stmts_faults (after sc s) rest) none in
      let a = stmt_is sc c s n (λ at h. inner at (returns_inside h)) (λ h. absurd (let r = returning s h in inner r.0 (this_returns r.1))) in
      let b = block_body (after sc s) (after_context sc c s n) rest (none_right (stmt_faults sc s) (stmts_faults (after sc s) rest) none) (λ at h. inner at (later_returns h)) in
      block_more s rest inner (typed_stmt sc s) (typed_body (after sc s) rest) a b

-- ---- a section's body

-- a resolved body: it ends in a `return` if its statements do
pub record Bodied (ss : Stmts) (o : Option Body) : Type 0 where
  pub body : Body
  pub is : o ≡ Some body
  pub none : ((at : ℕ) → HasReturn ss at → ⊥) → body.result ≡ None
  pub some : EndsInReturn ss → (r : core.Return) × (body.result ≡ Some r)

no_ends : EndsInReturn no_stmts → ⊥
no_ends h = elim h [ ]

only_ends : (s : Stmt) (rest : Stmts) → (IsReturning s → ⊥) → EndsInReturn (stmt s rest) → EndsInReturn rest
only_ends s rest not_so (last_returns {at = at} h) = absurd (not_so (not_returning s at h))
only_ends s rest not_so (ends_later h) = h

body_does : (s : Stmt) (rest : Stmts) (o : Option Part) (r : Option Body) (x : core.Stmt) → (IsReturning s → ⊥) →
    o ≡ Some (does x) → Bodied rest r → Bodied (stmt s rest) (preceded o r)
body_does s rest o r x not_so is b = record {
  body = record { stmts = core.stmt x.start x.action b.body.stmts; result = b.body.result };
  is = ap (λ (y : Option Part). preceded y r) is ∙ ap (preceded (Some (does x))) b.is;
  none = λ h. b.none (λ at i. h at (later_returns i));
  some = λ h. b.some (only_ends s rest not_so h);
}

body_gives : (s : Stmt) (rest : Stmts) (o : Option Part) (sc : Scope) (x : core.Return) → IsReturning s →
    o ≡ Some (gives x) → ((at : ℕ) → HasStrayReturn (stmt s rest) at → ⊥) →
    Bodied (stmt s rest) (preceded o (typed_body sc rest))
body_gives s no_stmts o sc x so is stray = record {
  body = record { stmts = core.no_stmts; result = Some x };
  is = ap (λ (y : Option Part). preceded y (Some (record { stmts = core.no_stmts; result = None }))) is;
  none = λ h. absurd (let q = returning s so in h q.0 (this_returns q.1));
  some = λ h. (x, refl);
}
body_gives s (stmt next more) o sc x so is stray = absurd (let q = returning s so in stray q.0 (this_early q.1))

body_step : (s : Stmt) (rest : Stmts) (o : Option Part) (sc : Scope) → Acts s o →
    ((IsReturning s → ⊥) → Bodied rest (typed_body sc rest)) → ((at : ℕ) → HasStrayReturn (stmt s rest) at → ⊥) →
    Bodied (stmt s rest) (preceded o (typed_body sc rest))
body_step s rest o sc (inl a) b stray = body_does s rest o (typed_body sc rest) a.0 a.1 a.2 (b a.1)
body_step s rest o sc (inr a) b stray = body_gives s rest o sc a.0 a.1 a.2 stray

next_result : (sc : Scope) (s : Stmt) → HasResult sc → HasResult (after sc s)
next_result sc s t = subst (λ (o : Option core_type.ValueType). Typing (after sc s).decls o) (sym (after_result sc s)) (subst (λ (ds : List Decl). Typing ds sc.result) (sym (after_decls sc s)) t)

-- some statement of them is a `return`
pub body_is : (sc : Scope) → Context sc → (ss : Stmts) → NoneIn (stmts_faults sc ss) →
    ((at : ℕ) → HasStrayReturn ss at → ⊥) → (((at : ℕ) → HasReturn ss at → ⊥) ⊎ HasResult sc) →
    Bodied ss (typed_body sc ss)
body_is sc c no_stmts none stray result = record { body = record { stmts = core.no_stmts; result = None }; is = refl; none = λ h. refl; some = λ h. absurd (no_ends h) }
body_is sc c (stmt s rest) none stray result =
    let n = none_left (stmt_faults sc s) (stmts_faults (after sc s) rest) none in
    body_step s rest (typed_stmt sc s) (after sc s)
    (stmt_is sc c s n (λ at h. stray at (stray_inside h)) (λ h. elim result [ inl never ↦ absurd (let q = returning s h in never q.0 (this_returns q.1)) | inr t ↦ t ]))
    (λ h. body_is (after sc s) (after_context sc c s n) rest (none_right (stmt_faults sc s) (stmts_faults (after sc s) rest) none) (λ at i. stray at (later_stray i))
    (elim result [ inl never ↦ inl (λ at i. never at (later_returns i)) | inr t ↦ inr (next_result sc s t) ]))
    stray
