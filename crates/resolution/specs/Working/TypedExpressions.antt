-- What the code computes: the resolved form of an expression, if it has a type.
use Rattle.std.specs.Prelude.{ℕ, ℤ, pos, nat_le, true, List, [], Option, Some, None, if◌then◌else◌}
use Rattle.source.specs.Texts.{NUMBER_LIMIT}
use Rattle.source.specs.declared.token.Number.{Number}
use Rattle.syntax.specs.declared.tree.Level.TheVariants.{Term, Sum, Conjunction, Disjunction}
use Rattle.syntax.specs.declared.tree.Prefix.TheVariants.{Negate, Not}
use Rattle.syntax.specs.declared.tree.Comparison as written
use Rattle.syntax.specs.declared.tree.Comparison.TheVariants as sign
use Rattle.syntax.specs.Trees.{Place, lone, element, path, Expr, int, null, place, paren, prefix, chain, compare, Links}
use Rattle.syntax.specs.Trees.{no_links, link, Decl, lock, struct, global, array, pool, init, atomic, helper, thread}
use Rattle.core_lang.specs.declared.value.ValueType as core_type
use Rattle.core_lang.specs.declared.value.ValueType.TheVariants.{Integer, Reference}
use Rattle.core_lang.specs.declared.tree.Operator.{Operator}
use Rattle.core_lang.specs.declared.tree.Comparison.{Comparison}
use Rattle.core_lang.specs.declared.tree.Comparison.TheVariants.{Equal, NotEqual, Less, LessOrEqual, Greater}
use Rattle.core_lang.specs.declared.tree.Comparison.TheVariants.{GreaterOrEqual}
use Rattle.resolution.specs.declared.wanted.Sort.TheVariants as sort
use Rattle.resolution.specs.declared.wanted.Want.{Want}
use Rattle.resolution.specs.declared.wanted.Want.TheVariants.{Condition, Value}
use Rattle.resolution.specs.Core as core
use Rattle.resolution.specs.Scopes.{Scope, outside, Meaning, a_local, a_decl, nothing, meaning, number_at, type_of}
use Rattle.resolution.specs.Scopes.{struct_named}
use Rattle.resolution.specs.Expressions.{ResolvedExpr, value, truth, fits, alike_sorts, cell_of}
use Rattle.resolution.specs.Expressions.{local_path, Walk, reached, at_lock, lost, walk_from, operator_of}

-- ---- what is found, and what is expected

abbrev pub fitting : Want → Option ResolvedExpr → Option ResolvedExpr
fitting w (Some s) = if fits w s then Some s else None
fitting w None = None

abbrev pub as_value : Option ResolvedExpr → Option core.Expr
as_value (Some (value e s)) = Some e
as_value (Some (truth c)) = None
as_value None = None

abbrev pub as_truth : Option ResolvedExpr → Option core.Condition
as_truth (Some (truth c)) = Some c
as_truth (Some (value e s)) = None
as_truth None = None

-- ---- numbers, names and elements

-- a number, if it is one that a token can have
abbrev pub number_value : Number → Option ℤ
number_value n = if nat_le n.value NUMBER_LIMIT then Some (pos n.value) else None

abbrev pub literal : Option ℤ → Option ResolvedExpr
literal (Some z) = Some (value (core.number z) (sort.Of Integer))
literal None = None

-- a value of a type, if the type has no fault
abbrev pub value_of : core.Expr → Option core_type.ValueType → Option ResolvedExpr
value_of e (Some t) = Some (value e (sort.Of t))
value_of e None = None

-- a name as a value
abbrev pub named_value : List Decl → ℕ → Meaning → Option ResolvedExpr
named_value decls start (a_local i l) = value_of (core.place (local_path start i [])) l.value_type
named_value decls start (a_decl i (global v)) =
    value_of (core.global start (cell_of decls i)) (type_of (outside decls) v.value_type)
named_value decls start _ = None

-- a member of a pool of a struct
abbrev pub member_value : ℕ → core.Expr → Option ℕ → Option ResolvedExpr
member_value number index (Some s) = Some (value (core.member number index) (sort.Of (Reference s)))
member_value number index None = None

-- a name with an index as a value
abbrev pub element_value : List Decl → ℕ → Meaning → Option core.Expr → Option ResolvedExpr
element_value decls start (a_decl i (array a)) (Some index) =
    value_of (core.element start (number_at decls i (array a)) index) (type_of (outside decls) a.value_type)
element_value decls start (a_decl i (pool p)) (Some index) =
    member_value (number_at decls i (pool p)) index (struct_named decls p.target)
element_value decls start (a_decl i (lock x)) (Some index) = None
element_value decls start (a_decl i (struct s)) (Some index) = None
element_value decls start (a_decl i (global v)) (Some index) = None
element_value decls start (a_decl i (init j)) (Some index) = None
element_value decls start (a_decl i (atomic s)) (Some index) = None
element_value decls start (a_decl i (helper s)) (Some index) = None
element_value decls start (a_decl i (thread t)) (Some index) = None
element_value decls start (a_local i l) (Some index) = None
element_value decls start nothing (Some index) = None
element_value decls start m None = None

-- ---- paths

abbrev pub path_value : ℕ → Meaning → Walk → Option ResolvedExpr
path_value start (a_local i l) (reached steps t) = Some (value (core.place (local_path start i steps)) (sort.Of t))
path_value start (a_local i l) at_lock = None
path_value start (a_local i l) lost = None
path_value start (a_decl i d) w = None
path_value start nothing w = None

-- ---- operators

-- an expression in parentheses; a local or a path is marked, since it is then not a stable path
abbrev pub parenthesised : Option ResolvedExpr → Option ResolvedExpr
parenthesised (Some (value (core.place p) s)) = Some (value (core.place (record p { in_parentheses = true })) s)
parenthesised s = s

abbrev pub negated : Option core.Expr → Option ResolvedExpr
negated (Some e) = Some (value (core.negate e) (sort.Of Integer))
negated None = None

abbrev pub not_so : Option core.Condition → Option ResolvedExpr
not_so (Some c) = Some (truth (core.negation c))
not_so None = None

abbrev pub chained : Option core.Expr → Option core.Operations → Option ResolvedExpr
chained (Some e) (Some rest) = Some (value (core.chain e rest) (sort.Of Integer))
chained (Some e) None = None
chained None rest = None

abbrev pub linked : Option Operator → Option core.Expr → Option core.Operations → Option core.Operations
linked (Some o) (Some e) (Some rest) = Some (core.operation o e rest)
linked (Some o) (Some e) None = None
linked (Some o) None rest = None
linked None e rest = None

-- conditions, the last apart
pub record Tests : Type 0 where
  pub before : core.Conditions
  pub last : core.Condition

abbrev pub one_test : Option core.Condition → Option Tests
one_test (Some c) = Some (record { before = core.no_conditions; last = c })
one_test None = None

abbrev pub tested : Option core.Condition → Option Tests → Option Tests
tested (Some c) (Some ts) = Some (record { before = core.condition c ts.before; last = ts.last })
tested (Some c) None = None
tested None ts = None

abbrev pub all_hold : Option Tests → Option ResolvedExpr
all_hold (Some ts) = Some (truth (core.all_of ts.before ts.last))
all_hold None = None

abbrev pub one_holds : Option Tests → Option ResolvedExpr
one_holds (Some ts) = Some (truth (core.any_of ts.before ts.last))
one_holds None = None

-- a comparison of two numbers by their order
abbrev pub ordered : Comparison → Option core.Expr → Option core.Expr → Option ResolvedExpr
ordered c (Some a) (Some b) = Some (truth (core.compare c a b))
ordered c (Some a) None = None
ordered c None b = None

-- a comparison of two values that `==` takes
abbrev pub equated : Comparison → Option ResolvedExpr → Option ResolvedExpr → Option ResolvedExpr
equated c (Some (value a s)) (Some (value b t)) = if alike_sorts s t then Some (truth (core.compare c a b)) else None
equated c (Some (value a s)) (Some (truth d)) = None
equated c (Some (value a s)) None = None
equated c (Some (truth d)) t = None
equated c None t = None

abbrev pub number_resolved : Option ResolvedExpr → Option core.Expr
number_resolved s = as_value (fitting (Value Integer) s)

abbrev pub test_resolved : Option ResolvedExpr → Option core.Condition
test_resolved s = as_truth (fitting Condition s)

abbrev pub compared : written.Comparison → Option ResolvedExpr → Option ResolvedExpr → Option ResolvedExpr
compared sign.Equal a b = equated Equal a b
compared sign.NotEqual a b = equated NotEqual a b
compared sign.Less a b = ordered Less (number_resolved a) (number_resolved b)
compared sign.LessOrEqual a b = ordered LessOrEqual (number_resolved a) (number_resolved b)
compared sign.Greater a b = ordered Greater (number_resolved a) (number_resolved b)
compared sign.GreaterOrEqual a b = ordered GreaterOrEqual (number_resolved a) (number_resolved b)

-- ---- expressions

abbrev mutual
  -- an expression resolved, if it has a type
  pub typed : Scope → Expr → Option ResolvedExpr
  typed sc (int n) = literal (number_value n)
  typed sc (null at) = Some (value core.null sort.Null)
  typed sc (place p) = typed_place sc p
  typed sc (paren at e) = parenthesised (typed sc e)
  typed sc (prefix Negate at e) = negated (number_resolved (typed sc e))
  typed sc (prefix Not at e) = not_so (test_resolved (typed sc e))
  typed sc (chain Term first links) = chained (number_resolved (typed sc first)) (typed_links sc links)
  typed sc (chain Sum first links) = chained (number_resolved (typed sc first)) (typed_links sc links)
  typed sc (chain Conjunction first links) = all_hold (typed_tests sc (test_resolved (typed sc first)) links)
  typed sc (chain Disjunction first links) = one_holds (typed_tests sc (test_resolved (typed sc first)) links)
  typed sc (compare a c b) = compared c (typed sc a) (typed sc b)

  pub typed_place : Scope → Place → Option ResolvedExpr
  typed_place sc (lone x) = named_value sc.decls x.span.start (meaning sc x.text)
  typed_place sc (element x e) = element_value sc.decls x.span.start (meaning sc x.text) (number_resolved (typed sc e))
  typed_place sc (path x fs) = path_value x.span.start (meaning sc x.text) (walk_from sc.decls (meaning sc x.text) fs)

  -- the further operands of a chain of numbers
  pub typed_links : Scope → Links → Option core.Operations
  typed_links sc no_links = Some core.no_operations
  typed_links sc (link o e rest) = linked (operator_of o) (number_resolved (typed sc e)) (typed_links sc rest)

  -- an operand of a chain of conditions, and the further ones
  pub typed_tests : Scope → Option core.Condition → Links → Option Tests
  typed_tests sc c no_links = one_test c
  typed_tests sc c (link o e rest) = tested c (typed_tests sc (test_resolved (typed sc e)) rest)
