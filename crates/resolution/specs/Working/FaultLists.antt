-- The faults of a program as one list, in the order in which they are looked for. Only proofs need it: `Faults` defines
-- the faults.
use Rattle.std.specs.Prelude.{ℕ, zero, suc, ◌+◌, List, [], ◌∷◌, ◌++◌, length, nat_le, nat_lt, not, is_some, ◌==◌}
use Rattle.std.specs.Prelude.{◌&&◌, ◌||◌, Bool, true, false, if◌then◌else◌, map, Option, Some, None}
use Rattle.source.specs.declared.fault.Code.{Code}
use Rattle.source.specs.declared.fault.Code.TheVariants.{NumberTooLarge, DeclaredTwice, UnknownName, WrongType}
use Rattle.source.specs.declared.fault.Code.TheVariants.{WrongArgumentCount, NotAssignable, NeitherFinalNorProtected}
use Rattle.source.specs.declared.fault.Code.TheVariants.{ProtectedByNoLock, ProtectedByPassesNonFinal, LimitExceeded}
use Rattle.source.specs.declared.fault.Code.TheVariants.{FinalWithoutOpeningValue, InitOutOfRangeOrRepeated}
use Rattle.source.specs.declared.fault.Code.TheVariants.{LockAsValue}
use Rattle.source.specs.Texts.{NUMBER_LIMIT}
use Rattle.source.specs.declared.token.Number.{Number}
use Rattle.syntax.specs.declared.tree.Operator.{Operator}
use Rattle.syntax.specs.declared.tree.Level.{Level}
use Rattle.syntax.specs.declared.tree.Level.TheVariants.{Term, Sum, Conjunction, Disjunction}
use Rattle.syntax.specs.declared.tree.Comparison as written
use Rattle.syntax.specs.declared.tree.Comparison.TheVariants as sign
use Rattle.syntax.specs.Trees as tree
use Rattle.syntax.specs.Trees.{Ident, ValueType, int_type, ref_type, Const, int_const, negative, null_const}
use Rattle.syntax.specs.Trees.{member_const, Place, lone, element, path, Expr, int, null, place, paren, prefix, chain}
use Rattle.syntax.specs.Trees.{compare, Links, no_links, link, HelperCall, CalledLocal, Stmt, let_local, let_owned}
use Rattle.syntax.specs.Trees.{let_call, var_local, assign, if_then, while, print, return_value, Stmts, no_stmts}
use Rattle.syntax.specs.Trees.{stmt, Otherwise, no_else, else_do, Protection, Member, lock_member, final_member}
use Rattle.syntax.specs.Trees.{field_member, Struct, Variable, Array, Pool, Init, Param, ClassName, Section, Item}
use Rattle.syntax.specs.Trees.{call, repeat, Items, no_items, item, Decl, lock, struct, global, array, pool, init}
use Rattle.syntax.specs.Trees.{atomic, helper, thread}
use Rattle.core_lang.specs.declared.value.ValueType as core_type
use Rattle.core_lang.specs.declared.value.ValueType.TheVariants.{Integer, Reference}
use Rattle.core_lang.specs.declared.tree.LocalKind.TheVariants.{Parameter}
use Rattle.resolution.specs.declared.body_limits.BodyLimits.{BodyLimits}
use Rattle.resolution.specs.declared.init_target.InitTarget.{InitTarget}
use Rattle.source.specs.declared.mistake.Mistake.{Mistake}
use Rattle.resolution.specs.declared.finding.Finding.{Finding}
use Rattle.resolution.specs.declared.why.Why.{Why}
use Rattle.resolution.specs.declared.why.Why.TheVariants as why
use Rattle.resolution.specs.declared.why.Kind.TheVariants as kind
use Rattle.resolution.specs.declared.why.Role.{Role}
use Rattle.resolution.specs.declared.why.Role.TheVariants as role
use Rattle.resolution.specs.Working.Findings.{told, plain, found_if}
use Rattle.resolution.specs.Reasons.{kind_of, stands_for}
use Rattle.resolution.specs.declared.wanted.Sort.{Sort}
use Rattle.resolution.specs.declared.wanted.Sort.TheVariants as sort
use Rattle.resolution.specs.declared.wanted.Want.{Want}
use Rattle.resolution.specs.declared.wanted.Want.TheVariants.{Anything, Condition, Value}
use Rattle.resolution.specs.Limits.{STRUCT_LIMIT, MEMBER_LIMIT, FINAL_LIMIT, CLASS_LIMIT, OBJECT_LIMIT, CELL_LIMIT}
use Rattle.resolution.specs.Limits.{SECTION_LIMIT, THREAD_LIMIT, CALL_LIMIT, section_limits, helper_limits}
use Rattle.resolution.specs.Scopes.{Scope, Local, outside, Meaning, a_local, a_decl, nothing, meaning, helper_meant}
use Rattle.resolution.specs.Scopes.{place_of, count, declared, bears, the_decl, alike, has_body, the_struct}
use Rattle.resolution.specs.Scopes.{member_name, member_bears, the_member, the_local, type_of, result_of, has_type}
use Rattle.resolution.specs.Scopes.{member_has_type, struct_named, same_class, bound, entered, left}
use Rattle.resolution.specs.Numbers.{is_lock, classes_of, objects_of, cells_of, calls_of, total}
use Rattle.resolution.specs.Expressions.{ResolvedExpr, value, truth, fits, fits_type, fits_sort, alike_sorts, want}
use Rattle.resolution.specs.Working.TypedExpressions.{typed}
use Rattle.resolution.specs.Expressions.{operator_of, Walk, reached, at_lock, lost, stepped, at_local}
use Rattle.resolution.specs.Expressions.{walk_from}
use Rattle.resolution.specs.declared.owner_field.OwnerField.{OwnerField}
use Rattle.resolution.specs.Working.TypedOwners.{owner_field}
use Rattle.resolution.specs.Statements.{is_var, after, after_all}
use Rattle.resolution.specs.Working.TypedStatements.{last_field, target_of, wanted_by}
use Rattle.resolution.specs.Constants.{want_of, members_of, pool_members, member_want, initialised}
use Rattle.resolution.specs.Working.TypedConstants.{const_sort}
use Rattle.resolution.specs.Constants.{init_target_of, giver, given}
use Rattle.resolution.specs.Annotations.{AnnotationCursor, stepped_on, cursor_at}
use Rattle.resolution.specs.Statements.{ahead_of}
use Rattle.resolution.specs.Where.{operand_want, prefix_want, side_want}
use Rattle.resolution.specs.Faults.{start_of, const_start}
use Rattle.core_lang_helpers.specs.Working.FaultLists.{graph_faults}
use Rattle.resolution.specs.CallGraphs.{tree_graph}

-- one fault with its reason
abbrev pub reasoned : Code → ℕ → Why → List Finding
reasoned code start why = told code start why ∷ []

-- one fault whose code says all
abbrev pub one : Code → ℕ → List Finding
one code start = reasoned code start why.Plain

abbrev pub one_if : Bool → Code → ℕ → List Finding
one_if b code start = found_if b (told code start why.Plain)

-- ---- names and types

-- the fault of a type's name that does not refer to a struct
abbrev pub no_struct : ℕ → Meaning → List Finding
no_struct start (a_decl i (struct s)) = []
no_struct start nothing = one UnknownName start
no_struct start m = reasoned WrongType start (why.Misnamed role.Struct (stands_for m))

abbrev pub type_faults : Scope → ValueType → List Finding
type_faults sc int_type = []
type_faults sc (ref_type x) = no_struct x.span.start (meaning sc x.text)

-- this fault of a name, unless the type of the declaration that the name refers to has a fault
abbrev pub unfit : List Decl → Finding → Meaning → List Finding
unfit decls f m = found_if (has_type decls m) f

-- the fault of a name that is expected to refer to something else
abbrev pub misnamed : List Decl → Code → Role → ℕ → Meaning → List Finding
misnamed decls code r start m = unfit decls (told code start (why.Misnamed r (stands_for m))) m

-- this fault of a member, unless its type has a fault
abbrev pub unfit_member : List Decl → Finding → Member → List Finding
unfit_member decls f m = found_if (member_has_type decls m) f

-- ---- constants

abbrev pub number_faults : Number → List Finding
number_faults n = one_if (nat_lt NUMBER_LIMIT n.value) NumberTooLarge n.span.start

-- the faults of a pool's name with an index
abbrev pub index_faults : List Decl → ℕ → Option (ℕ × Decl) → Number → List Finding
index_faults decls start None n = one UnknownName start
index_faults decls start (Some (i, pool p)) n = one_if (has_type decls (a_decl i (pool p)) && nat_le p.length.value n.value) InitOutOfRangeOrRepeated n.span.start
index_faults decls start (Some (i, d)) n = misnamed decls WrongType role.Pool start (a_decl i d)

-- the faults of a constant by itself
abbrev pub own_faults : List Decl → Const → List Finding
own_faults decls (int_const n) = number_faults n
own_faults decls (negative sign n) = number_faults n
own_faults decls (null_const at) = []
own_faults decls (member_const p n) = index_faults decls p.span.start (the_decl decls p.text) n

-- the fault of a constant that is not of the expected sort
abbrev pub sort_misfit : Want → ℕ → Option Sort → List Finding
sort_misfit w start (Some s) = if fits_sort w s then [] else reasoned WrongType start (why.Unwanted w (kind.Value s))
sort_misfit w start None = []

abbrev pub const_faults : List Decl → Want → Const → List Finding
const_faults decls w c = own_faults decls c ++ sort_misfit w (const_start c) (const_sort decls c)

abbrev pub argument_faults : List Decl → List Param → List Const → List Finding
argument_faults decls [] [] = []
argument_faults decls [] (c ∷ cs) = []
argument_faults decls (p ∷ ps) [] = []
argument_faults decls (p ∷ ps) (c ∷ cs) = const_faults decls (want_of decls p) c ++ argument_faults decls ps cs

-- ---- places

-- the fault of a name that is not a value
abbrev pub no_value : List Decl → ℕ → Meaning → List Finding
no_value decls start (a_local i l) = []
no_value decls start (a_decl i (global v)) = []
no_value decls start (a_decl i (lock x)) = one LockAsValue start
no_value decls start (a_decl i d) = misnamed decls WrongType role.Value start (a_decl i d)
no_value decls start nothing = one UnknownName start

-- the fault of a name without elements
abbrev pub no_elements : List Decl → ℕ → Meaning → List Finding
no_elements decls start (a_decl i (array a)) = []
no_elements decls start (a_decl i (pool p)) = []
no_elements decls start nothing = one UnknownName start
no_elements decls start m = misnamed decls WrongType role.Elements start m

-- the fault of a field that does not exist
abbrev pub no_member : ℕ → Option (ℕ × Member) → List Finding
no_member start None = one UnknownName start
no_member start (Some m) = []

abbrev pub no_field : Option Struct → Ident → List Finding
no_field (Some s) f = no_member f.span.start (the_member s.members f.text)
no_field None f = []

-- the faults of a step of a path that starts at this byte
abbrev pub step_faults : List Decl → ℕ → Walk → Ident → List Finding
step_faults decls start (reached steps (Reference k)) f = no_field (the_struct decls k) f
step_faults decls start (reached steps Integer) f = reasoned WrongType start why.FieldOfInt
step_faults decls start at_lock f = reasoned WrongType start why.FieldOfLock
step_faults decls start lost f = []

-- the fault of a path that ends at a lock
abbrev pub end_faults : ℕ → Walk → List Finding
end_faults start (reached steps t) = []
end_faults start at_lock = one LockAsValue start
end_faults start lost = []

abbrev pub walk_faults : List Decl → ℕ → Walk → List Ident → List Finding
walk_faults decls start w [] = end_faults start w
walk_faults decls start w (f ∷ fs) = step_faults decls start w f ++ walk_faults decls start (stepped decls w f) fs

abbrev pub path_faults : List Decl → ℕ → Meaning → List Ident → List Finding
path_faults decls start (a_local i l) fs = walk_faults decls start (at_local l.value_type) fs
path_faults decls start (a_decl i d) fs = misnamed decls WrongType role.Local start (a_decl i d)
path_faults decls start nothing fs = one UnknownName start

-- ---- expressions

-- the fault of an expression that is not as expected
abbrev pub misfit : Want → ℕ → Option ResolvedExpr → List Finding
misfit w start (Some s) = if fits w s then [] else reasoned WrongType start (why.Unwanted w (kind_of s))
misfit w start None = []

-- the fault of sides that `==` does not take
abbrev pub unlike : ℕ → ℕ → Option ResolvedExpr → Option ResolvedExpr → List Finding
unlike a b (Some (value e s)) (Some (value f t)) =
    if alike_sorts s t then [] else reasoned WrongType b (why.Unlike (kind.Value s) (kind.Value t))
unlike a b (Some (value e s)) (Some (truth d)) = reasoned WrongType b (why.Unlike (kind.Value s) kind.Condition)
unlike a b (Some (truth c)) (Some (value f t)) = reasoned WrongType b (why.Unlike kind.Condition (kind.Value t))
unlike a b (Some (truth c)) (Some (truth d)) = reasoned WrongType a (why.Unlike kind.Condition kind.Condition)
unlike a b (Some s) None = []
unlike a b None t = []

abbrev pub side_faults : written.Comparison → ℕ → ℕ → Option ResolvedExpr → Option ResolvedExpr → List Finding
side_faults sign.Equal a b s t = unlike a b s t
side_faults sign.NotEqual a b s t = unlike a b s t
side_faults _ a b s t = []

-- the fault of an operator of conditions in a chain of numbers
abbrev pub operator_faults : Level → ℕ → Operator → List Finding
operator_faults Term start o = found_if (not (is_some (operator_of o))) (told WrongType start why.OperatorOfConditions)
operator_faults Sum start o = found_if (not (is_some (operator_of o))) (told WrongType start why.OperatorOfConditions)
operator_faults Conjunction start o = []
operator_faults Disjunction start o = []

abbrev mutual
  -- the faults of an expression by itself
  pub expr_faults : Scope → Expr → List Finding
  expr_faults sc (int n) = number_faults n
  expr_faults sc (null at) = []
  expr_faults sc (place p) = place_faults sc p
  expr_faults sc (paren at e) = expr_faults sc e
  expr_faults sc (prefix o at e) = expr_faults sc e ++ misfit (prefix_want o) (start_of e) (typed sc e)
  expr_faults sc (chain level e links) = expr_faults sc e ++ misfit (operand_want level) (start_of e) (typed sc e) ++ link_faults sc level links
  expr_faults sc (compare a c b) =
      expr_faults sc a ++ misfit (side_want c) (start_of a) (typed sc a)
      ++ expr_faults sc b ++ misfit (side_want c) (start_of b) (typed sc b)
      ++ side_faults c (start_of a) (start_of b) (typed sc a) (typed sc b)

  -- the faults of a place as a value
  pub place_faults : Scope → Place → List Finding
  place_faults sc (lone x) = no_value sc.decls x.span.start (meaning sc x.text)
  place_faults sc (element x e) = no_elements sc.decls x.span.start (meaning sc x.text) ++ expr_faults sc e ++ misfit (Value Integer) (start_of e) (typed sc e)
  place_faults sc (path x fs) = path_faults sc.decls x.span.start (meaning sc x.text) fs

  pub link_faults : Scope → Level → Links → List Finding
  link_faults sc level no_links = []
  link_faults sc level (link o e rest) = operator_faults level (start_of e) o ++ expr_faults sc e ++ misfit (operand_want level) (start_of e) (typed sc e) ++ link_faults sc level rest

-- the faults of an expression of which something is expected
abbrev pub wanted_faults : Scope → Want → Expr → List Finding
wanted_faults sc w e = expr_faults sc e ++ misfit w (start_of e) (typed sc e)

-- ---- statements

-- the fault of a local's name that an earlier local or a declaration has
abbrev pub taken : ℕ → Option (ℕ × Local) → Option (ℕ × Decl) → List Finding
taken start None None = []
taken start (Some l) d = one DeclaredTwice start
taken start None (Some d) = one DeclaredTwice start

-- the faults of a local's name, in the scope before it
abbrev pub local_faults : Scope → Ident → List Finding
local_faults sc x =
    taken x.span.start (the_local sc.locals x.text) (the_decl sc.decls x.text)
    ++ one_if (nat_le sc.limits.locals (length sc.locals)) LimitExceeded x.span.start

-- the fault of a name on the left that can't be assigned to
abbrev pub no_target : List Decl → ℕ → Meaning → List Finding
no_target decls start (a_local i l) = if is_var l.kind then [] else misnamed decls NotAssignable role.Target start (a_local i l)
no_target decls start (a_decl i (global v)) = []
no_target decls start (a_decl i (lock x)) = one LockAsValue start
no_target decls start (a_decl i d) = misnamed decls NotAssignable role.Target start (a_decl i d)
no_target decls start nothing = one UnknownName start

-- the fault of a pool's member on the left
abbrev pub no_array : List Decl → ℕ → Meaning → List Finding
no_array decls start (a_decl i (pool p)) = misnamed decls NotAssignable role.Target start (a_decl i (pool p))
no_array decls start _ = []

-- the fault of a path on the left whose end can't be assigned to
abbrev pub final_faults : ℕ → Walk → List Finding
final_faults start (reached steps t) = found_if (not (is_some (last_field steps))) (told NotAssignable start why.FinalTarget)
final_faults start at_lock = []
final_faults start lost = []

abbrev pub target_faults : Scope → Place → List Finding
target_faults sc (lone x) = no_target sc.decls x.span.start (meaning sc x.text)
target_faults sc (element x e) = no_elements sc.decls x.span.start (meaning sc x.text) ++ no_array sc.decls x.span.start (meaning sc x.text) ++ wanted_faults sc (Value Integer) e
target_faults sc (path x fs) = path_faults sc.decls x.span.start (meaning sc x.text) fs ++ final_faults x.span.start (walk_from sc.decls (meaning sc x.text) fs)

-- the faults of the declaration of a local
abbrev pub binding_faults : Scope → tree.Local → List Finding
binding_faults sc l = local_faults sc l.name ++ type_faults sc l.value_type ++ wanted_faults sc (want (type_of sc l.value_type)) l.value

-- the fault of a member that is not a final reference after `where`
abbrev pub no_final : List Decl → ℕ → Option (ℕ × Member) → List Finding
no_final decls start None = one UnknownName start
no_final decls start (Some (i, lock_member x)) = one LockAsValue start
no_final decls start (Some (i, final_member f)) = []
no_final decls start (Some (i, field_member f)) = unfit_member decls (told WrongType start why.OwnerField) (field_member f)

abbrev pub no_final_in : List Decl → Option Struct → Ident → List Finding
no_final_in decls (Some s) f = no_final decls f.span.start (the_member s.members f.text)
no_final_in decls None f = []

-- the faults of the final reference after `where`, for a value of this type
abbrev pub owner_field_faults : List Decl → Option core_type.ValueType → Ident → List Finding
owner_field_faults decls (Some (Reference k)) f = no_final_in decls (the_struct decls k) f
owner_field_faults decls (Some Integer) f = reasoned WrongType f.span.start why.OwnedInt
owner_field_faults decls None f = []

-- the fault of a type that differs from the expected one
abbrev pub other_than : ℕ → core_type.ValueType → core_type.ValueType → List Finding
other_than start t u =
    if fits_type t (sort.Of u) then [] else reasoned WrongType start (why.Unwanted (Value t) (kind.Value (sort.Of u)))

-- the fault of a local whose type is not that of the final reference
abbrev pub other_type : ℕ → Option OwnerField → Option core_type.ValueType → List Finding
other_type start (Some f) (Some t) = other_than start f.value_type t
other_type start (Some f) None = []
other_type start None t = []

-- the fault of a name after `where` that is not a fitting local
abbrev pub no_owner : List Decl → ℕ → Option OwnerField → Meaning → List Finding
no_owner decls start f (a_local i l) = other_type start f l.value_type
no_owner decls start f (a_decl i d) = misnamed decls WrongType role.Local start (a_decl i d)
no_owner decls start f nothing = one UnknownName start

-- the faults of what follows `where`, for a value of this type
abbrev pub owner_faults : Scope → Option core_type.ValueType → tree.Owner → List Finding
owner_faults sc t o =
    owner_field_faults sc.decls t o.field
    ++ no_owner sc.decls o.local.span.start (owner_field sc.decls t o.field) (meaning sc o.local.text)

-- ---- calls of helpers

-- the fault of a called name that does not refer to a helper with this number of parameters
abbrev pub no_helper : List Decl → ℕ → ℕ → Meaning → List Finding
no_helper decls start n (a_decl i (helper s)) =
    found_if (not (n == length s.params)) (told WrongArgumentCount start (why.Counted (length s.params) n))
no_helper decls start n nothing = one UnknownName start
no_helper decls start n m = misnamed decls WrongType role.Helper start m

-- the faults of arguments, each for its parameter
abbrev pub values_faults : Scope → List Param → List Expr → List Finding
values_faults sc [] es = []
values_faults sc (p ∷ ps) [] = []
values_faults sc (p ∷ ps) (e ∷ es) = wanted_faults sc (want_of sc.decls p) e ++ values_faults sc ps es

-- the faults of arguments, each by itself
abbrev pub each_value_faults : Scope → List Expr → List Finding
each_value_faults sc [] = []
each_value_faults sc (e ∷ es) = wanted_faults sc Anything e ++ each_value_faults sc es

-- the faults of the arguments for the helper that the name refers to
abbrev pub passed_values_faults : Scope → Option (ℕ × Section) → List Expr → List Finding
passed_values_faults sc (Some (i, s)) es = if length es == length s.params then values_faults sc s.params es else []
passed_values_faults sc None es = each_value_faults sc es

abbrev pub helper_call_faults : Scope → HelperCall → List Finding
helper_call_faults sc c =
    no_helper sc.decls c.helper.span.start (length c.arguments) (meaning sc c.helper.text)
    ++ passed_values_faults sc (helper_meant (meaning sc c.helper.text)) c.arguments

-- the fault of a result of another type
abbrev pub other_result : ℕ → core_type.ValueType → Option core_type.ValueType → List Finding
other_result start t (Some u) = other_than start t u
other_result start t None = []

-- the fault of a helper without result, if one of the type is expected
abbrev pub no_result : ℕ → core_type.ValueType → Option ValueType → Option core_type.ValueType → List Finding
no_result start t None u = reasoned WrongType start (why.NoResult t)
no_result start t (Some r) u = other_result start t u

-- the faults of a helper's result for a local of this type
abbrev pub given_back_faults : List Decl → ℕ → Option core_type.ValueType → Option (ℕ × Section) → List Finding
given_back_faults decls start (Some t) (Some (i, s)) = no_result start t s.result (result_of decls s)
given_back_faults decls start (Some t) None = []
given_back_faults decls start None h = []

-- the faults of a `let` of a helper's result
abbrev pub called_faults : Scope → CalledLocal → List Finding
called_faults sc l =
    local_faults sc l.name ++ type_faults sc l.value_type
    ++ given_back_faults sc.decls l.call.helper.span.start (type_of sc l.value_type) (helper_meant (meaning sc l.call.helper.text))
    ++ helper_call_faults sc l.call

abbrev mutual
  pub stmt_faults : Scope → Stmt → List Finding
  stmt_faults sc (let_local l) = binding_faults sc l
  stmt_faults sc (let_owned l o) = binding_faults sc l ++ owner_faults sc (type_of sc l.value_type) o
  stmt_faults sc (let_call l) = called_faults sc l
  stmt_faults sc (var_local l) = binding_faults sc l
  stmt_faults sc (assign p e) = target_faults sc p ++ wanted_faults sc (wanted_by (target_of sc p)) e
  stmt_faults sc (if_then start e body close other) = wanted_faults sc Condition e ++ stmts_faults sc body ++ else_faults (left sc (after_all sc body)) other
  stmt_faults sc (while start e body close) = wanted_faults sc Condition e ++ stmts_faults sc body
  stmt_faults sc (print start e) = wanted_faults sc (Value Integer) e
  stmt_faults sc (return_value start e) = wanted_faults sc (want sc.result) e
  stmt_faults sc (call start c) = helper_call_faults sc c

  pub else_faults : Scope → Otherwise → List Finding
  else_faults sc no_else = []
  else_faults sc (else_do body close) = stmts_faults sc body

  pub stmts_faults : Scope → Stmts → List Finding
  stmts_faults sc no_stmts = []
  stmts_faults sc (stmt s rest) = stmt_faults sc s ++ stmts_faults (after sc s) rest

-- the faults of parameters, in the scope after n of them
abbrev pub param_faults : Scope → ℕ → List Param → List Finding
param_faults sc n [] = []
param_faults sc n (p ∷ ps) =
    local_faults sc p.name ++ one_if (nat_le sc.limits.parameters n) LimitExceeded p.name.span.start ++ type_faults (outside sc.decls) p.value_type
    ++ param_faults (bound sc Parameter p.name (type_of (outside sc.decls) p.value_type)) (n + 1) ps

abbrev pub result_faults : List Decl → Option ValueType → List Finding
result_faults decls None = []
result_faults decls (Some t) = type_faults (outside decls) t

-- ---- listed lock classes

-- the fault of a name that was declared before
abbrev pub again : ℕ → Option ℕ → List Finding
again start None = []
again start (Some i) = one DeclaredTwice start

-- the fault of a listed member that is not a lock
abbrev pub no_lock : List Decl → ℕ → Option (ℕ × Member) → List Finding
no_lock decls start None = one UnknownName start
no_lock decls start (Some (i, lock_member x)) = []
no_lock decls start (Some (i, m)) = unfit_member decls (told WrongType start why.ListedMember) m

abbrev pub no_lock_in : List Decl → Option (ℕ × Decl) → Ident → List Finding
no_lock_in decls (Some (i, struct s)) x = no_lock decls x.span.start (the_member s.members x.text)
no_lock_in decls _ x = []

-- the faults of a listed lock class by itself
abbrev pub class_faults : List Decl → ClassName → List Finding
class_faults decls c = type_faults (outside decls) (ref_type c.structure) ++ no_lock_in decls (the_decl decls c.structure.text) c.lock

-- the faults of listed lock classes, given those before
abbrev pub listed_faults : List Decl → List ClassName → List ClassName → List Finding
listed_faults decls before [] = []
listed_faults decls before (c ∷ cs) = class_faults decls c ++ again c.structure.span.start (place_of same_class before c) ++ listed_faults decls (before ++ c ∷ []) cs

-- ---- annotations

-- the fault of an annotation that has to name a global lock
abbrev pub global_lock_faults : List Decl → ℕ → Option (ℕ × Decl) → List Ident → List Finding
global_lock_faults decls start None ys = one UnknownName start
global_lock_faults decls start (Some (i, lock x)) [] = []
global_lock_faults decls start (Some (i, d)) ys = unfit decls (told ProtectedByNoLock start why.Plain) (a_decl i d)

-- the faults of these names, which have to name a global lock
abbrev pub named_lock_faults : List Decl → Ident → List Ident → List Finding
named_lock_faults decls x ys = global_lock_faults decls x.span.start (the_decl decls x.text) ys

-- the faults of the annotation of the global or array of this name
abbrev pub lock_faults : List Decl → ℕ → Option Protection → List Finding
lock_faults decls name None = one NeitherFinalNorProtected name
lock_faults decls name (Some p) = named_lock_faults decls p.first p.rest

-- the fault of a name that others follow, after n final references
abbrev pub passed_faults : List Decl → ℕ → ℕ → ℕ → Option (ℕ × Member) → List Finding
passed_faults decls first here n None = one UnknownName here
passed_faults decls first here n (Some (i, final_member f)) = one_if (nat_le FINAL_LIMIT n) LimitExceeded first
passed_faults decls first here n (Some (i, m)) = unfit_member decls (told ProtectedByPassesNonFinal here why.Plain) m

-- the fault of the last name
abbrev pub last_faults : List Decl → ℕ → ℕ → Option (ℕ × Member) → List Finding
last_faults decls first here None = one UnknownName here
last_faults decls first here (Some (i, lock_member x)) = []
last_faults decls first here (Some (i, m)) = unfit_member decls (told ProtectedByNoLock first why.Plain) m

abbrev pub passed : List Decl → ℕ → Option AnnotationCursor → Ident → List Finding
passed decls first (Some st) y = passed_faults decls first y.span.start (length st.through) (the_member st.members y.text)
passed decls first None y = []

abbrev pub ended : List Decl → ℕ → Option AnnotationCursor → Ident → List Finding
ended decls first (Some st) y = last_faults decls first y.span.start (the_member st.members y.text)
ended decls first None y = []

-- the faults of a walk along names; the annotation starts at this byte
abbrev pub along_faults : List Decl → ℕ → Option AnnotationCursor → Ident → List Ident → List Finding
along_faults decls first st y [] = ended decls first st y
along_faults decls first st y (z ∷ zs) = passed decls first st y ++ along_faults decls first (stepped_on decls st y) z zs

abbrev pub annotation_faults : List Decl → AnnotationCursor → Protection → Option (ℕ × Member) → List Finding
annotation_faults decls own p (Some m) = along_faults decls p.first.span.start (Some own) p.first p.rest
annotation_faults decls own p None = named_lock_faults decls p.first p.rest

-- the faults of the annotation of a field with this name, of the struct at this place
abbrev pub protection_faults : List Decl → ℕ → List Member → ℕ → Option Protection → List Finding
protection_faults decls i ms name None = one NeitherFinalNorProtected name
protection_faults decls i ms name (Some p) = annotation_faults decls (cursor_at i ms) p (the_member ms p.first.text)

-- ---- declarations

-- the faults of a member of the struct at this place
abbrev pub member_faults : List Decl → ℕ → List Member → Member → List Finding
member_faults decls i all (lock_member x) = []
member_faults decls i all (final_member f) = type_faults (outside decls) (ref_type f.target)
member_faults decls i all (field_member f) = type_faults (outside decls) f.value_type ++ protection_faults decls i all f.name.span.start f.protection

abbrev pub members_faults : List Decl → ℕ → List Member → List Member → List Finding
members_faults decls i all [] = []
members_faults decls i all (m ∷ ms) = member_faults decls i all m ++ members_faults decls i all ms

abbrev pub opening_faults : List Decl → Want → Option Const → List Finding
opening_faults decls w None = []
opening_faults decls w (Some c) = const_faults decls w c

-- some of the first n members of the pool at a place has no `init` for the member at this place of its struct
abbrev pub some_lacks : List Decl → ℕ → ℕ → ℕ → Bool
some_lacks decls i m zero = false
some_lacks decls i m (suc n) = not (is_some (given decls (record { pool = i; index = n; member = m }))) || some_lacks decls i m n

abbrev pub is_at : ℕ → Option ℕ → Bool
is_at n (Some i) = i == n
is_at n None = false

-- the member is a final reference, the first of its name, whose struct is known
abbrev pub is_due : List Decl → List Member → ℕ → Member → Bool
is_due decls all n (final_member f) = is_at n (place_of member_bears all f.name.text) && is_some (struct_named decls f.target)
is_due decls all n _ = false

-- some of the members from a place on is a final reference without an `init`
abbrev pub lacks : List Decl → ℕ → ℕ → List Member → ℕ → List Member → Bool
lacks decls i n all k [] = false
lacks decls i n all k (m ∷ ms) = is_due decls all k m && some_lacks decls i k n || lacks decls i n all (k + 1) ms

abbrev pub missing_faults : List Decl → ℕ → Pool → Option (List Member) → List Finding
missing_faults decls i p (Some ms) = one_if (lacks decls i p.length.value ms 0 ms) FinalWithoutOpeningValue p.name.span.start
missing_faults decls i p None = []

-- the fault of a member that no `init` can give a value
abbrev pub field_faults : ℕ → Option (ℕ × Member) → List Finding
field_faults start None = one UnknownName start
field_faults start (Some (m, lock_member x)) = one LockAsValue start
field_faults start (Some (m, final_member f)) = []
field_faults start (Some (m, field_member f)) = []

-- the faults of the field that an `init` names
abbrev pub named_faults : List Decl → ℕ → Option (List Member) → List ℕ → List Finding
named_faults decls start None q = []
named_faults decls start (Some ms) q = field_faults start (the_member ms q)

abbrev pub init_field_faults : List Decl → Init → List Finding
init_field_faults decls j = named_faults decls j.field.span.start (pool_members decls (the_decl decls j.pool.text)) j.field.text

-- the fault of null for a final reference
abbrev pub null_faults : List Decl → Option (ℕ × Member) → Const → List Finding
null_faults decls (Some (m, final_member f)) (null_const at) = one_if (is_some (struct_named decls f.target)) FinalWithoutOpeningValue at.start
null_faults decls _ c = []

abbrev pub init_faults : List Decl → Init → List Finding
init_faults decls j =
    index_faults decls j.pool.span.start (the_decl decls j.pool.text) j.index
    ++ init_field_faults decls j
    ++ const_faults decls (member_want decls (initialised decls j)) j.value
    ++ null_faults decls (initialised decls j) j.value

-- the faults of a call, by what its name refers to
abbrev pub call_faults : List Decl → ℕ → Option (ℕ × Decl) → List Const → List Finding
call_faults decls start None cs = one UnknownName start
call_faults decls start (Some (i, atomic s)) cs =
    if length cs == length s.params then argument_faults decls s.params cs
    else reasoned WrongArgumentCount start (why.Counted (length s.params) (length cs))
call_faults decls start (Some (i, d)) cs = misnamed decls WrongType role.Section start (a_decl i d)

abbrev mutual
  pub item_faults : List Decl → Item → List Finding
  item_faults decls (call c) = call_faults decls c.section.span.start (the_decl decls c.section.text) c.arguments
  item_faults decls (repeat n is) = items_faults decls is

  pub items_faults : List Decl → Items → List Finding
  items_faults decls no_items = []
  items_faults decls (item i rest) = item_faults decls i ++ items_faults decls rest

abbrev pub global_faults : List Decl → Variable → List Finding
global_faults decls v =
    type_faults (outside decls) v.value_type ++ lock_faults decls v.name.span.start v.protection ++ opening_faults decls (want (type_of (outside decls) v.value_type)) v.value

abbrev pub array_faults : List Decl → Array → List Finding
array_faults decls a = type_faults (outside decls) a.value_type ++ lock_faults decls a.name.span.start a.protection

-- the faults of a section or a helper, from the scope before its parameters
abbrev pub faults_in : Scope → Section → List Finding
faults_in sc s =
    result_faults sc.decls s.result ++ param_faults sc 0 s.params ++ stmts_faults (entered sc s.params) s.body.stmts
    ++ listed_faults sc.decls [] s.listed

abbrev pub section_faults : List Decl → BodyLimits → Section → List Finding
section_faults decls limits s = faults_in (ahead_of decls limits s) s

-- the faults of the declaration at this place by itself
abbrev pub decl_faults : List Decl → ℕ → Decl → List Finding
decl_faults decls i (lock x) = []
decl_faults decls i (struct s) = members_faults decls i s.members s.members
decl_faults decls i (global v) = global_faults decls v
decl_faults decls i (array a) = array_faults decls a
decl_faults decls i (pool p) = type_faults (outside decls) (ref_type p.target) ++ missing_faults decls i p (members_of decls p.target)
decl_faults decls i (init j) = init_faults decls j
decl_faults decls i (atomic s) = section_faults decls section_limits s
decl_faults decls i (helper s) = section_faults decls helper_limits s
decl_faults decls i (thread t) = items_faults decls t.items

-- the faults of the declarations from a place on
abbrev pub each_faults : List Decl → ℕ → List Decl → List Finding
each_faults decls i [] = []
each_faults decls i (d ∷ ds) = decl_faults decls i d ++ each_faults decls (i + 1) ds

-- ---- names and counts, given the declarations before

abbrev pub twice : List Decl → Option Ident → List Finding
twice before (Some x) = again x.span.start (place_of bears before x.text)
twice before None = []

abbrev pub twice_faults : List Decl → List Decl → List Finding
twice_faults before [] = []
twice_faults before (d ∷ ds) = twice before (declared d) ++ twice_faults (before ++ d ∷ []) ds

abbrev pub member_twice_faults : List Member → List Member → List Finding
member_twice_faults before [] = []
member_twice_faults before (m ∷ ms) = again (member_name m).span.start (place_of member_bears before (member_name m).text) ++ member_twice_faults (before ++ m ∷ []) ms

abbrev pub struct_faults : List Decl → List Finding
struct_faults [] = []
struct_faults (struct s ∷ ds) = member_twice_faults [] s.members ++ struct_faults ds
struct_faults (d ∷ ds) = struct_faults ds

-- a further count is the first to exceed the limit, after the count before
abbrev pub first_too_many : ℕ → ℕ → ℕ → Bool
first_too_many limit before own = nat_le before limit && nat_lt limit (before + own)

abbrev pub lock_count : Bool → ℕ
lock_count true = 1
lock_count false = 0

-- the faults of members past a limit, after n others and this number of lock classes
abbrev pub member_counts : ℕ → ℕ → List Member → List Finding
member_counts classes n [] = []
member_counts classes n (m ∷ ms) =
    one_if (nat_le MEMBER_LIMIT n) LimitExceeded (member_name m).span.start
    ++ one_if (is_lock m && nat_le CLASS_LIMIT classes) LimitExceeded (member_name m).span.start
    ++ member_counts (classes + lock_count (is_lock m)) (n + 1) ms

-- the faults of a declaration past a limit, after others
abbrev pub count_faults : List Decl → List Decl → Decl → List Finding
count_faults decls before (lock x) = one_if (nat_le CLASS_LIMIT (total classes_of before)) LimitExceeded x.span.start
count_faults decls before (struct s) = one_if (nat_le STRUCT_LIMIT (count (alike (struct s)) before)) LimitExceeded s.name.span.start ++ member_counts (total classes_of before) 0 s.members
count_faults decls before (global v) = one_if (first_too_many CELL_LIMIT (total (cells_of decls) before) (cells_of decls (global v))) LimitExceeded v.name.span.start
count_faults decls before (array a) = one_if (first_too_many CELL_LIMIT (total (cells_of decls) before) (cells_of decls (array a))) LimitExceeded a.name.span.start
count_faults decls before (pool p) =
    one_if (first_too_many OBJECT_LIMIT (total objects_of before) (objects_of (pool p))) LimitExceeded p.name.span.start
    ++ one_if (first_too_many CELL_LIMIT (total (cells_of decls) before) (cells_of decls (pool p))) LimitExceeded p.name.span.start
count_faults decls before (init i) = []
count_faults decls before (atomic s) = one_if (nat_le SECTION_LIMIT (count has_body before)) LimitExceeded s.name.span.start
count_faults decls before (helper s) = one_if (nat_le SECTION_LIMIT (count has_body before)) LimitExceeded s.name.span.start
count_faults decls before (thread t) =
    one_if (nat_le THREAD_LIMIT (count (alike (thread t)) before)) LimitExceeded t.name.span.start
    ++ one_if (first_too_many CALL_LIMIT (total calls_of before) (calls_of (thread t))) LimitExceeded t.name.span.start

abbrev pub total_faults : List Decl → List Decl → List Decl → List Finding
total_faults decls before [] = []
total_faults decls before (d ∷ ds) = count_faults decls before d ++ total_faults decls (before ++ d ∷ []) ds

-- the fault of an `init` whose target has a value from an earlier one
abbrev pub given_before : {A : Type 0} → ℕ → Option A → List Finding
given_before start None = []
given_before start (Some d) = one InitOutOfRangeOrRepeated start

abbrev pub init_target_again : List Decl → List Decl → ℕ → Option InitTarget → List Finding
init_target_again decls before start (Some g) = given_before start (giver decls before g)
init_target_again decls before start None = []

abbrev pub repeated : List Decl → List Decl → Decl → List Finding
repeated decls before (init j) = init_target_again decls before j.start.start (init_target_of decls j)
repeated decls before _ = []

abbrev pub repeated_faults : List Decl → List Decl → List Decl → List Finding
repeated_faults decls before [] = []
repeated_faults decls before (d ∷ ds) = repeated decls before d ++ repeated_faults decls (before ++ d ∷ []) ds

-- ---- the whole

-- the faults of declarations, each by itself and after others
abbrev pub declaration_faults : List Decl → List Finding
declaration_faults decls = twice_faults [] decls ++ struct_faults decls ++ total_faults decls [] decls ++ repeated_faults decls [] decls ++ each_faults decls 0 decls

-- the faults of a program: those of its declarations and of their calls
abbrev pub program_faults : List Decl → List Finding
program_faults decls = declaration_faults decls ++ map plain (graph_faults (tree_graph decls))
