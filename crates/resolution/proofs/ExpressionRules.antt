-- The code computes for an expression the result of the rules.
use Rattle.std.proofs.Common.{◌≡◌, ℕ, ◌≤◌, List, [], Option, Some, None, Bool, true, false, refl, ap, ◌∙◌}
use Rattle.std.proofs.Common.{subst, if◌then◌else◌}
use Rattle.std.specs.Prelude.{nat_le, pos}
use Rattle.source.specs.Texts.{NUMBER_LIMIT}
use Rattle.source.specs.declared.span.Span.{Span}
use Rattle.source.specs.declared.token.Number.{Number}
use Rattle.syntax.specs.declared.tree.Operator as written_operator
use Rattle.syntax.specs.declared.tree.Level.{Level}
use Rattle.syntax.specs.declared.tree.Level.TheVariants.{Term, Sum, Conjunction, Disjunction}
use Rattle.syntax.specs.declared.tree.Prefix.TheVariants.{Negate, Not}
use Rattle.syntax.specs.declared.tree.Comparison as written
use Rattle.syntax.specs.declared.tree.Comparison.TheVariants as sign
use Rattle.syntax.specs.Trees.{Ident, lone, element, path, Expr, int, null, place, paren, prefix, chain, compare}
use Rattle.syntax.specs.Trees.{Links, no_links, link, global, array, pool}
use Rattle.core_lang.specs.declared.value.ValueType.{ValueType}
use Rattle.core_lang.specs.declared.value.ValueType.TheVariants.{Integer, Reference}
use Rattle.core_lang.specs.declared.tree.Operator.{Operator}
use Rattle.resolution.specs.declared.wanted.Sort.{Sort}
use Rattle.resolution.specs.declared.wanted.Sort.TheVariants.{Of, Null}
use Rattle.resolution.specs.declared.wanted.Want.{Want}
use Rattle.resolution.specs.declared.wanted.Want.TheVariants.{Anything, Condition, Value}
use Rattle.resolution.specs.Core as core
use Rattle.resolution.specs.Scopes.{Scope, outside, Meaning, a_local, a_decl, nothing, meaning, number_at, type_of}
use Rattle.resolution.specs.Scopes.{struct_named}
use Rattle.resolution.specs.Expressions.{ResolvedExpr, value, truth, fits_sort, alike_sorts, cell_of, local_path, Walk}
use Rattle.resolution.specs.Expressions.{reached, at_lock, lost, walk_from, marked, operator_of, comparison_of}
use Rattle.resolution.specs.Expressions.{IsOfNumbers, IsEquality}
use Rattle.resolution.specs.Typing.{Types, types_int, types_null, types_local, types_global}
use Rattle.resolution.specs.Typing.{types_element, types_member}
use Rattle.resolution.specs.Typing.{types_path, types_paren, types_minus, types_not, types_numbers, types_and, types_or}
use Rattle.resolution.specs.Typing.{types_order, types_equality, TypesOperands, no_operand, one_operand, TypesTests}
use Rattle.resolution.specs.Typing.{last_test, one_test, Gives, gives}
use Rattle.resolution.specs.Working.TypedExpressions.{fitting, as_value, literal, value_of, named_value, member_value}
use Rattle.resolution.specs.Working.TypedExpressions.{element_value, path_value, parenthesised, negated}
use Rattle.resolution.specs.Working.TypedExpressions.{not_so, chained}
use Rattle.resolution.specs.Working.TypedExpressions.{linked, Tests, tested, all_hold, one_holds, ordered, equated}
use Rattle.resolution.specs.Working.TypedExpressions.{number_resolved, test_resolved, compared, typed, typed_links}
use Rattle.resolution.specs.Working.TypedExpressions.{typed_tests}
use Rattle.resolution.proofs.Tests.{le_of, le_true}

-- what is there, if anything is, is so
abbrev pub When : {A : Type 0} → (A → Type 0) → Option A → Type 0
When P (Some x) = P x
When P None = Unit {0}

pub when : {A : Type 0} (P : A → Type 0) (o : Option A) → When P o → (x : A) → o ≡ Some x → P x
when P o h x e = subst (When P) e h

-- ---- the result of the code is one of the rules

pub number_when : (P : ResolvedExpr → Type 0) (o : Option ResolvedExpr) → When P o →
    When (λ (x : core.Expr). P (value x (Of Integer))) (number_resolved o)
number_when P None h = tt
number_when P (Some (value x (Of Integer))) h = h
number_when P (Some (value x (Of (Reference s)))) h = tt
number_when P (Some (value x Null)) h = tt
number_when P (Some (truth c)) h = tt

pub test_when : (P : ResolvedExpr → Type 0) (o : Option ResolvedExpr) → When P o →
    When (λ (c : core.Condition). P (truth c)) (test_resolved o)
test_when P None h = tt
test_when P (Some (value x s)) h = tt
test_when P (Some (truth c)) h = h

number_types : (sc : Scope) (n : Number) (b : Bool) → nat_le n.value NUMBER_LIMIT ≡ b →
    When (Types sc (int n)) (literal (if b then Some (pos n.value) else None))
number_types sc n true e = types_int (le_of n.value NUMBER_LIMIT e)
number_types sc n false e = tt

value_types : (sc : Scope) (e : Expr) (x : core.Expr) (t : Option ValueType) →
    ((u : ValueType) → t ≡ Some u → Types sc e (value x (Of u))) → When (Types sc e) (value_of x t)
value_types sc e x None h = tt
value_types sc e x (Some u) h = h u refl

name_types : (sc : Scope) (x : Ident) (m : Meaning) → meaning sc x.text ≡ m →
    When (Types sc (place (lone x))) (named_value sc.decls x.span.start m)
name_types sc x (a_local i l) is =
    value_types sc (place (lone x)) (core.place (local_path x.span.start i [])) l.value_type (λ t e. types_local is e)
name_types sc x (a_decl i (global v)) is =
    value_types sc (place (lone x)) (core.global x.span.start (cell_of sc.decls i))
    (type_of (outside sc.decls) v.value_type) (λ t e. types_global is e)
name_types sc x m is = tt

member_types : (sc : Scope) (e : Expr) (n : ℕ) (x : core.Expr) (s : Option ℕ) →
    ((k : ℕ) → s ≡ Some k → Types sc e (value (core.member n x) (Of (Reference k)))) →
    When (Types sc e) (member_value n x s)
member_types sc e n x None h = tt
member_types sc e n x (Some k) h = h k refl

element_types : (sc : Scope) (x : Ident) (e : Expr) (m : Meaning) → meaning sc x.text ≡ m → (o : Option core.Expr) →
    When (λ (y : core.Expr). Types sc e (value y (Of Integer))) o →
    When (Types sc (place (element x e))) (element_value sc.decls x.span.start m o)
element_types sc x e (a_decl i (array a)) is (Some y) h =
    value_types sc (place (element x e)) (core.element x.span.start (number_at sc.decls i (array a)) y)
    (type_of (outside sc.decls) a.value_type) (λ t k. types_element is k h)
element_types sc x e (a_decl i (pool p)) is (Some y) h =
    member_types sc (place (element x e)) (number_at sc.decls i (pool p)) y (struct_named sc.decls p.target)
    (λ s k. types_member is k h)
element_types sc x e m is (Some y) h = tt
element_types sc x e m is None h = tt

path_types : (sc : Scope) (x : Ident) (fs : List Ident) (m : Meaning) → meaning sc x.text ≡ m → (w : Walk) →
    walk_from sc.decls m fs ≡ w → When (Types sc (place (path x fs))) (path_value x.span.start m w)
path_types sc x fs (a_local i l) is (reached steps t) at = types_path is at
path_types sc x fs (a_local i l) is at_lock at = tt
path_types sc x fs (a_local i l) is lost at = tt
path_types sc x fs (a_decl i d) is w at = tt
path_types sc x fs nothing is w at = tt

paren_types : (sc : Scope) (at : Span) (e : Expr) (o : Option ResolvedExpr) → When (Types sc e) o →
    When (Types sc (paren at e)) (parenthesised o)
paren_types sc at e None h = tt
paren_types sc at e (Some (value (core.place p) s)) h = types_paren h
paren_types sc at e (Some r) h = types_paren h

minus_types : (sc : Scope) (at : Span) (e : Expr) (o : Option core.Expr) →
    When (λ (x : core.Expr). Types sc e (value x (Of Integer))) o → When (Types sc (prefix Negate at e)) (negated o)
minus_types sc at e None h = tt
minus_types sc at e (Some x) h = types_minus h

not_types : (sc : Scope) (at : Span) (e : Expr) (o : Option core.Condition) →
    When (λ (c : core.Condition). Types sc e (truth c)) o → When (Types sc (prefix Not at e)) (not_so o)
not_types sc at e None h = tt
not_types sc at e (Some c) h = types_not h

chain_types : (sc : Scope) (level : Level) (e : Expr) (links : Links) → IsOfNumbers level → (o : Option core.Expr) →
    When (λ (x : core.Expr). Types sc e (value x (Of Integer))) o → (rest : Option core.Operations) →
    When (TypesOperands sc links) rest → When (Types sc (chain level e links)) (chained o rest)
chain_types sc level e links are None h rest k = tt
chain_types sc level e links are (Some x) h None k = tt
chain_types sc level e links are (Some x) h (Some rest) k = types_numbers are h k

link_types : (sc : Scope) (o : written_operator.Operator) (e : Expr) (links : Links) (p : Option Operator) →
    operator_of o ≡ p → (x : Option core.Expr) → When (λ (y : core.Expr). Types sc e (value y (Of Integer))) x →
    (rest : Option core.Operations) → When (TypesOperands sc links) rest →
    When (TypesOperands sc (link o e links)) (linked p x rest)
link_types sc o e links None is x h rest k = tt
link_types sc o e links (Some p) is None h rest k = tt
link_types sc o e links (Some p) is (Some x) h None k = tt
link_types sc o e links (Some p) is (Some x) h (Some rest) k = one_operand is h k

-- operands of a chain of conditions, from one on
abbrev TestsAre : Scope → Option core.Condition → Links → Option Tests → Type 0
TestsAre sc (Some c) links (Some ts) = TypesTests sc c links ts.before ts.last
TestsAre sc None links (Some ts) = ⊥
TestsAre sc c links None = Unit {0}

test_types : (sc : Scope) (o : written_operator.Operator) (e : Expr) (links : Links) (c d : Option core.Condition) →
    When (λ (x : core.Condition). Types sc e (truth x)) d → (ts : Option Tests) → TestsAre sc d links ts →
    TestsAre sc c (link o e links) (tested c ts)
test_types sc o e links None d h ts k = tt
test_types sc o e links (Some c) d h None k = tt
test_types sc o e links (Some c) None h (Some ts) k = absurd k
test_types sc o e links (Some c) (Some d) h (Some ts) k = one_test h k

all_types : (sc : Scope) (e : Expr) (links : Links) (c : Option core.Condition) →
    When (λ (x : core.Condition). Types sc e (truth x)) c → (ts : Option Tests) → TestsAre sc c links ts →
    When (Types sc (chain Conjunction e links)) (all_hold ts)
all_types sc e links c h None k = tt
all_types sc e links None h (Some ts) k = absurd k
all_types sc e links (Some c) h (Some ts) k = types_and h k

one_types : (sc : Scope) (e : Expr) (links : Links) (c : Option core.Condition) →
    When (λ (x : core.Condition). Types sc e (truth x)) c → (ts : Option Tests) → TestsAre sc c links ts →
    When (Types sc (chain Disjunction e links)) (one_holds ts)
one_types sc e links c h None k = tt
one_types sc e links None h (Some ts) k = absurd k
one_types sc e links (Some c) h (Some ts) k = types_or h k

order_types : (sc : Scope) (a b : Expr) (c : written.Comparison) (x y : Option core.Expr) →
    When (λ (z : core.Expr). Types sc a (value z (Of Integer))) x →
    When (λ (z : core.Expr). Types sc b (value z (Of Integer))) y →
    When (Types sc (compare a c b)) (ordered (comparison_of c) x y)
order_types sc a b c None y h k = tt
order_types sc a b c (Some x) None h k = tt
order_types sc a b c (Some x) (Some y) h k = types_order h k

alike_types : (sc : Scope) (a b : Expr) (c : written.Comparison) → IsEquality c → (x y : core.Expr) (s t : Sort) →
    Types sc a (value x s) → Types sc b (value y t) → (same : Bool) → alike_sorts s t ≡ same →
    When (Types sc (compare a c b)) (if same then Some (truth (core.compare (comparison_of c) x y)) else None)
alike_types sc a b c so x y s t h k false e = tt
alike_types sc a b c so x y s t h k true e = types_equality so h k e

equal_types : (sc : Scope) (a b : Expr) (c : written.Comparison) → IsEquality c → (r q : Option ResolvedExpr) →
    When (Types sc a) r → When (Types sc b) q → When (Types sc (compare a c b)) (equated (comparison_of c) r q)
equal_types sc a b c so (Some (value x s)) (Some (value y t)) h k =
    alike_types sc a b c so x y s t h k (alike_sorts s t) refl
equal_types sc a b c so (Some (value x s)) (Some (truth d)) h k = tt
equal_types sc a b c so (Some (value x s)) None h k = tt
equal_types sc a b c so (Some (truth d)) q h k = tt
equal_types sc a b c so None q h k = tt

compare_types : (sc : Scope) (a b : Expr) (c : written.Comparison) (r q : Option ResolvedExpr) → When (Types sc a) r →
    When (Types sc b) q → When (Types sc (compare a c b)) (compared c r q)
compare_types sc a b sign.Equal r q h k = equal_types sc a b sign.Equal tt r q h k
compare_types sc a b sign.NotEqual r q h k = equal_types sc a b sign.NotEqual tt r q h k
compare_types sc a b sign.Less r q h k =
    order_types sc a b sign.Less (number_resolved r) (number_resolved q) (number_when (Types sc a) r h)
    (number_when (Types sc b) q k)
compare_types sc a b sign.LessOrEqual r q h k =
    order_types sc a b sign.LessOrEqual (number_resolved r) (number_resolved q) (number_when (Types sc a) r h)
    (number_when (Types sc b) q k)
compare_types sc a b sign.Greater r q h k =
    order_types sc a b sign.Greater (number_resolved r) (number_resolved q) (number_when (Types sc a) r h)
    (number_when (Types sc b) q k)
compare_types sc a b sign.GreaterOrEqual r q h k =
    order_types sc a b sign.GreaterOrEqual (number_resolved r) (number_resolved q) (number_when (Types sc a) r h)
    (number_when (Types sc b) q k)

mutual
  pub expr_types : (sc : Scope) (e : Expr) → When (Types sc e) (typed sc e)
  expr_types sc (int n) = number_types sc n (nat_le n.value NUMBER_LIMIT) refl
  expr_types sc (null at) = types_null
  expr_types sc (place (lone x)) = name_types sc x (meaning sc x.text) refl
  expr_types sc (place (element x e)) =
      element_types sc x e (meaning sc x.text) refl (number_resolved (typed sc e))
      (number_when (Types sc e) (typed sc e) (expr_types sc e))
  expr_types sc (place (path x fs)) =
      path_types sc x fs (meaning sc x.text) refl (walk_from sc.decls (meaning sc x.text) fs) refl
  expr_types sc (paren at e) = paren_types sc at e (typed sc e) (expr_types sc e)
  expr_types sc (prefix Negate at e) =
      minus_types sc at e (number_resolved (typed sc e)) (number_when (Types sc e) (typed sc e) (expr_types sc e))
  expr_types sc (prefix Not at e) =
      not_types sc at e (test_resolved (typed sc e)) (test_when (Types sc e) (typed sc e) (expr_types sc e))
  expr_types sc (chain Term e links) =
      chain_types sc Term e links tt (number_resolved (typed sc e))
      (number_when (Types sc e) (typed sc e) (expr_types sc e)) (typed_links sc links) (links_types sc links)
  expr_types sc (chain Sum e links) =
      chain_types sc Sum e links tt (number_resolved (typed sc e))
      (number_when (Types sc e) (typed sc e) (expr_types sc e)) (typed_links sc links) (links_types sc links)
  expr_types sc (chain Conjunction e links) =
      all_types sc e links (test_resolved (typed sc e)) (test_when (Types sc e) (typed sc e) (expr_types sc e))
      (typed_tests sc (test_resolved (typed sc e)) links) (tests_types sc (test_resolved (typed sc e)) links)
  expr_types sc (chain Disjunction e links) =
      one_types sc e links (test_resolved (typed sc e)) (test_when (Types sc e) (typed sc e) (expr_types sc e))
      (typed_tests sc (test_resolved (typed sc e)) links) (tests_types sc (test_resolved (typed sc e)) links)
  expr_types sc (compare a c b) = compare_types sc a b c (typed sc a) (typed sc b) (expr_types sc a) (expr_types sc b)

  links_types : (sc : Scope) (links : Links) → When (TypesOperands sc links) (typed_links sc links)
  links_types sc no_links = no_operand
  links_types sc (link o e links) =
      link_types sc o e links (operator_of o) refl (number_resolved (typed sc e))
      (number_when (Types sc e) (typed sc e) (expr_types sc e)) (typed_links sc links) (links_types sc links)

  tests_types : (sc : Scope) (c : Option core.Condition) (links : Links) → TestsAre sc c links (typed_tests sc c links)
  tests_types sc None no_links = tt
  tests_types sc (Some c) no_links = last_test
  tests_types sc c (link o e links) =
      test_types sc o e links c (test_resolved (typed sc e)) (test_when (Types sc e) (typed sc e) (expr_types sc e))
      (typed_tests sc (test_resolved (typed sc e)) links) (tests_types sc (test_resolved (typed sc e)) links)

-- ---- a result of the rules is computed

is_number : (sc : Scope) (n : Number) → n.value ≤ NUMBER_LIMIT →
    typed sc (int n) ≡ Some (value (core.number (pos n.value)) (Of Integer))
is_number sc n h = ap (λ (b : Bool). literal (if b then Some (pos n.value) else None)) (le_true n.value NUMBER_LIMIT h)

is_marked : (r : ResolvedExpr) → parenthesised (Some r) ≡ Some (marked r)
is_marked (value (core.place p) s) = refl
is_marked r = refl

is_chain : (sc : Scope) (level : Level) (e : Expr) (links : Links) (x : core.Expr) (rest : core.Operations) →
    IsOfNumbers level → typed sc e ≡ Some (value x (Of Integer)) → typed_links sc links ≡ Some rest →
    typed sc (chain level e links) ≡ Some (value (core.chain x rest) (Of Integer))
is_chain sc Term e links x rest are h k =
    ap (λ (o : Option ResolvedExpr). chained (number_resolved o) (typed_links sc links)) h ∙ ap (chained (Some x)) k
is_chain sc Sum e links x rest are h k =
    ap (λ (o : Option ResolvedExpr). chained (number_resolved o) (typed_links sc links)) h ∙ ap (chained (Some x)) k
is_chain sc Conjunction e links x rest are h k = absurd are
is_chain sc Disjunction e links x rest are h k = absurd are

is_ordered : (c : written.Comparison) (x y : core.Expr) →
    compared c (Some (value x (Of Integer))) (Some (value y (Of Integer))) ≡ Some
    (truth (core.compare (comparison_of c) x y))
is_ordered sign.Equal x y = refl
is_ordered sign.NotEqual x y = refl
is_ordered sign.Less x y = refl
is_ordered sign.LessOrEqual x y = refl
is_ordered sign.Greater x y = refl
is_ordered sign.GreaterOrEqual x y = refl

is_equality : (c : written.Comparison) (x y : core.Expr) (s t : Sort) → IsEquality c → alike_sorts s t ≡ true →
    compared c (Some (value x s)) (Some (value y t)) ≡ Some (truth (core.compare (comparison_of c) x y))
is_equality sign.Equal x y s t so e =
    ap (λ (b : Bool). if b then Some (truth (core.compare (comparison_of sign.Equal) x y)) else None) e
is_equality sign.NotEqual x y s t so e =
    ap (λ (b : Bool). if b then Some (truth (core.compare (comparison_of sign.NotEqual) x y)) else None) e
is_equality sign.Less x y s t so e = absurd so
is_equality sign.LessOrEqual x y s t so e = absurd so
is_equality sign.Greater x y s t so e = absurd so
is_equality sign.GreaterOrEqual x y s t so e = absurd so

mutual
  -- an expression that is something by the rules is computed to be that
  pub typed_is : {sc : Scope} {e : Expr} {r : ResolvedExpr} → Types sc e r → typed sc e ≡ Some r
  typed_is {sc = sc} (types_int {n = n} h) = is_number sc n h
  typed_is types_null = refl
  typed_is {sc = sc} (types_local {x = x} {i = i} is h) =
      ap (named_value sc.decls x.span.start) is ∙ ap (value_of (core.place (local_path x.span.start i []))) h
  typed_is {sc = sc} (types_global {x = x} {i = i} is h) =
      ap (named_value sc.decls x.span.start) is ∙ ap (value_of (core.global x.span.start (cell_of sc.decls i))) h
  typed_is {sc = sc} (types_element {x = x} {e = e} {i = i} {a = a} {index = y} is h d) =
      ap (λ (m : Meaning). element_value sc.decls x.span.start m (number_resolved (typed sc e))) is
      ∙ ap (λ (o : Option ResolvedExpr). element_value sc.decls x.span.start (a_decl i (array a)) (number_resolved o))
      (typed_is d)
      ∙ ap (value_of (core.element x.span.start (number_at sc.decls i (array a)) y)) h
  typed_is {sc = sc} (types_member {x = x} {e = e} {i = i} {p = p} {index = y} is h d) =
      ap (λ (m : Meaning). element_value sc.decls x.span.start m (number_resolved (typed sc e))) is
      ∙ ap (λ (o : Option ResolvedExpr). element_value sc.decls x.span.start (a_decl i (pool p)) (number_resolved o))
      (typed_is d)
      ∙ ap (member_value (number_at sc.decls i (pool p)) y) h
  typed_is {sc = sc} (types_path {x = x} {fs = fs} {i = i} {l = l} is at) =
      ap (λ (m : Meaning). path_value x.span.start m (walk_from sc.decls m fs)) is
      ∙ ap (path_value x.span.start (a_local i l)) at
  typed_is (types_paren {r = r} d) = ap parenthesised (typed_is d) ∙ is_marked r
  typed_is (types_minus d) = ap (λ (o : Option ResolvedExpr). negated (number_resolved o)) (typed_is d)
  typed_is (types_not d) = ap (λ (o : Option ResolvedExpr). not_so (test_resolved o)) (typed_is d)
  typed_is {sc = sc} (types_numbers {level = level} {e = e} {links = links} {x = x} {rest = rest} are d k) =
      is_chain sc level e links x rest are (typed_is d) (operands_are k)
  typed_is {sc = sc} (types_and {links = links} d k) =
      ap (λ (o : Option ResolvedExpr). all_hold (typed_tests sc (test_resolved o) links)) (typed_is d)
      ∙ ap all_hold (tests_are k)
  typed_is {sc = sc} (types_or {links = links} d k) =
      ap (λ (o : Option ResolvedExpr). one_holds (typed_tests sc (test_resolved o) links)) (typed_is d)
      ∙ ap one_holds (tests_are k)
  typed_is {sc = sc} (types_order {a = a} {b = b} {c = c} {x = x} {y = y} h k) =
      ap (λ (o : Option ResolvedExpr). compared c o (typed sc b)) (typed_is h)
      ∙ ap (compared c (Some (value x (Of Integer)))) (typed_is k)
      ∙ is_ordered c x y
  typed_is {sc = sc} (types_equality {a = a} {b = b} {c = c} {x = x} {y = y} {s = s} {t = t} so h k e) =
      ap (λ (o : Option ResolvedExpr). compared c o (typed sc b)) (typed_is h)
      ∙ ap (compared c (Some (value x s))) (typed_is k)
      ∙ is_equality c x y s t so e

  operands_are : {sc : Scope} {links : Links} {rest : core.Operations} → TypesOperands sc links rest →
      typed_links sc links ≡ Some rest
  operands_are no_operand = refl
  operands_are {sc = sc} (one_operand {o = o} {p = p} {e = e} {links = links} {x = x} is d k) =
      ap (λ (q : Option Operator). linked q (number_resolved (typed sc e)) (typed_links sc links)) is
      ∙ ap (λ (r : Option ResolvedExpr). linked (Some p) (number_resolved r) (typed_links sc links)) (typed_is d)
      ∙ ap (linked (Some p) (Some x)) (operands_are k)

  tests_are : {sc : Scope} {c last : core.Condition} {links : Links} {before : core.Conditions} →
      TypesTests sc c links before last →
      typed_tests sc (Some c) links ≡ Some (record { before = before; last = last })
  tests_are last_test = refl
  tests_are {sc = sc} (one_test {c = c} {links = links} d k) =
      ap (λ (r : Option ResolvedExpr). tested (Some c) (typed_tests sc (test_resolved r) links)) (typed_is d)
      ∙ ap (tested (Some c)) (tests_are k)

-- and the other way round
pub types_is : (sc : Scope) (e : Expr) (r : ResolvedExpr) → typed sc e ≡ Some r → Types sc e r
types_is sc e r is = when (Types sc e) (typed sc e) (expr_types sc e) r is

-- ---- an expected value

gives_if : (sc : Scope) (w : Want) (e : Expr) (x : core.Expr) (s : Sort) → Types sc e (value x s) → (b : Bool) →
    fits_sort w s ≡ b →
    When (Gives sc w e) (as_value (if b then Some (value x s) else None))
gives_if sc w e x s h true is = gives h is
gives_if sc w e x s h false is = tt

gives_by : (sc : Scope) (w : Want) (e : Expr) (o : Option ResolvedExpr) → When (Types sc e) o →
    When (Gives sc w e) (as_value (fitting w o))
gives_by sc w e None h = tt
gives_by sc w e (Some (value x s)) h = gives_if sc w e x s h (fits_sort w s) refl
gives_by sc Anything e (Some (truth c)) h = tt
gives_by sc Condition e (Some (truth c)) h = tt
gives_by sc (Value t) e (Some (truth c)) h = tt

pub gives_when : (sc : Scope) (w : Want) (e : Expr) → When (Gives sc w e) (as_value (fitting w (typed sc e)))
gives_when sc w e = gives_by sc w e (typed sc e) (expr_types sc e)

pub given_is : {sc : Scope} {w : Want} {e : Expr} {x : core.Expr} → Gives sc w e x →
    as_value (fitting w (typed sc e)) ≡ Some x
given_is {w = w} (gives {x = x} {s = s} d fits) =
    ap (λ (o : Option ResolvedExpr). as_value (fitting w o)) (typed_is d)
    ∙ ap (λ (b : Bool). as_value (if b then Some (value x s) else None)) fits
