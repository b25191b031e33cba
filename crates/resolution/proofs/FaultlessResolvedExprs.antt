-- Expressions without a listed fault are as expected.
use Rattle.std.proofs.Common.{◌≡◌, ℕ, ◌++◌, Option, Some, None, Bool, true, refl, ap, ◌∙◌, subst, if◌then◌else◌}
use Rattle.std.specs.Prelude.{ℤ, pos, nat_lt, not, is_some}
use Rattle.source.specs.Texts.{NUMBER_LIMIT}
use Rattle.source.specs.declared.fault.Code.TheVariants.{NumberTooLarge, WrongType}
use Rattle.source.specs.declared.token.Number.{Number}
use Rattle.syntax.specs.declared.tree.Operator as syntax_operator
use Rattle.syntax.specs.declared.tree.Level.{Level}
use Rattle.syntax.specs.declared.tree.Level.TheVariants.{Term, Sum, Conjunction, Disjunction}
use Rattle.syntax.specs.declared.tree.Prefix.TheVariants.{Negate, Not}
use Rattle.syntax.specs.declared.tree.Comparison as written
use Rattle.syntax.specs.declared.tree.Comparison.TheVariants as sign
use Rattle.syntax.specs.Trees.{Place, lone, element, path, Expr, int, null, place, paren, prefix, chain, compare}
use Rattle.syntax.specs.Trees.{Links, no_links, link}
use Rattle.core_lang.specs.declared.value.ValueType as core_type
use Rattle.core_lang.specs.declared.value.ValueType.TheVariants.{Integer}
use Rattle.core_lang.specs.declared.tree.Operator.{Operator}
use Rattle.core_lang.specs.declared.tree.Comparison.{Comparison}
use Rattle.core_lang.specs.declared.tree.Comparison.TheVariants.{Equal, NotEqual, Less, LessOrEqual, Greater}
use Rattle.core_lang.specs.declared.tree.Comparison.TheVariants.{GreaterOrEqual}
use Rattle.resolution.specs.declared.wanted.Sort.TheVariants as sort
use Rattle.resolution.specs.declared.wanted.Want.{Want}
use Rattle.resolution.specs.declared.wanted.Want.TheVariants.{Condition, Value}
use Rattle.resolution.specs.Core as core
use Rattle.resolution.specs.Scopes.{Scope, meaning}
use Rattle.resolution.specs.Expressions.{ResolvedExpr, value, truth, fits}
use Rattle.resolution.specs.Working.TypedExpressions.{fitting, as_value, number_resolved}
use Rattle.resolution.specs.Working.TypedExpressions.{test_resolved, literal, negated}
use Rattle.resolution.specs.Expressions.{alike_sorts, operator_of}
use Rattle.resolution.specs.Working.TypedExpressions.{number_value}
use Rattle.resolution.specs.Working.TypedExpressions.{not_so, parenthesised, chained, linked, Tests, one_test, tested}
use Rattle.resolution.specs.Working.TypedExpressions.{all_hold}
use Rattle.resolution.specs.Working.TypedExpressions.{one_holds, ordered, equated, compared, typed, typed_place}
use Rattle.resolution.specs.Working.TypedExpressions.{typed_links}
use Rattle.resolution.specs.Working.TypedExpressions.{typed_tests, element_value}
use Rattle.resolution.specs.Where.{operand_want, side_want}
use Rattle.resolution.specs.Faults.{start_of}
use Rattle.resolution.specs.declared.why.Why.TheVariants as why
use Rattle.resolution.specs.Working.Findings.{told, found_if}
use Rattle.resolution.specs.Working.FaultLists.{number_faults, no_elements, misfit, unlike, side_faults}
use Rattle.resolution.specs.Working.FaultLists.{operator_faults, expr_faults, place_faults, link_faults}
use Rattle.resolution.specs.Working.FaultLists.{wanted_faults}
use Rattle.resolution.proofs.FaultlessExpressions.{NoneIn, none_left, none_right, not_one, not_if, not_found, is_there, Context}
use Rattle.resolution.proofs.FaultlessExpressions.{meaning_known, HasResolvedExpr, name_resolved, element_resolved}
use Rattle.resolution.proofs.FaultlessExpressions.{path_is, path_resolved, fit_if, fit_is, wanted_value, wanted_test}
use Rattle.resolution.proofs.Tests.{lt_false, le_true}

-- ---- numbers

pub number_is : (n : Number) → NoneIn (number_faults n) → (z : ℤ) × (number_value n ≡ Some z)
number_is n h =
    let le = lt_false NUMBER_LIMIT n.value (not_if (nat_lt NUMBER_LIMIT n.value) NumberTooLarge n.span.start h) in
    (pos n.value, ap (λ (b : Bool). if b then Some (pos n.value) else None) (le_true n.value NUMBER_LIMIT le))

-- ---- operators

paren_resolved : (o : Option ResolvedExpr) → HasResolvedExpr o → HasResolvedExpr (parenthesised o)
paren_resolved o s = (as_path s.0, ap parenthesised s.1 ∙ as_path_is s.0)
  where
    as_path : ResolvedExpr → ResolvedExpr
    as_path (value (core.place p) t) = value (core.place (record p { in_parentheses = true })) t
    as_path s = s

    as_path_is : (s : ResolvedExpr) → parenthesised (Some s) ≡ Some (as_path s)
    as_path_is (value (core.number n) t) = refl
    as_path_is (value core.null t) = refl
    as_path_is (value (core.place p) t) = refl
    as_path_is (value (core.global start cell) t) = refl
    as_path_is (value (core.element start number index) t) = refl
    as_path_is (value (core.member number index) t) = refl
    as_path_is (value (core.negate e) t) = refl
    as_path_is (value (core.owned e k f start n) t) = refl
    as_path_is (value (core.chain e rest) t) = refl
    as_path_is (truth c) = refl

negated_resolved : (o : Option core.Expr) (e : core.Expr) → o ≡ Some e → HasResolvedExpr (negated o)
negated_resolved o e is = (value (core.negate e) (sort.Of Integer), ap negated is)

not_resolved : (o : Option core.Condition) (c : core.Condition) → o ≡ Some c → HasResolvedExpr (not_so o)
not_resolved o c is = (truth (core.negation c), ap not_so is)

chain_resolved : (o : Option core.Expr) (e : core.Expr) (r : Option core.Operations) (rest : core.Operations) →
    o ≡ Some e → r ≡ Some rest → HasResolvedExpr (chained o r)
chain_resolved o e r rest a b = (value (core.chain e rest) (sort.Of Integer), ap (λ (x : Option core.Expr). chained x r) a ∙ ap (chained (Some e)) b)

-- all operands of a chain
abbrev Links_are : Option core.Operations → Type 0
Links_are o = (rest : core.Operations) × (o ≡ Some rest)

link_resolved : (p : Option Operator) (q : Operator) (o : Option core.Expr) (e : core.Expr) (r : Option core.Operations) → p ≡ Some q → o ≡ Some e → Links_are r → Links_are (linked p o r)
link_resolved p q o e r a b rest = (core.operation q e rest.0, ap (λ (x : Option Operator). linked x o r) a ∙ ap (λ (x : Option core.Expr). linked (Some q) x r) b ∙ ap (linked (Some q) (Some e)) rest.1)

abbrev Tests_are : Option Tests → Type 0
Tests_are o = (ts : Tests) × (o ≡ Some ts)

one_resolved : (o : Option core.Condition) (c : core.Condition) → o ≡ Some c → Tests_are (one_test o)
one_resolved o c is = (record { before = core.no_conditions; last = c }, ap one_test is)

more_resolved : (o : Option core.Condition) (c : core.Condition) (r : Option Tests) → o ≡ Some c → Tests_are r →
    Tests_are (tested o r)
more_resolved o c r is ts = (record { before = core.condition c ts.0.before; last = ts.0.last }, ap (λ (x : Option core.Condition). tested x r) is ∙ ap (tested (Some c)) ts.1)

all_resolved : (o : Option Tests) → Tests_are o → HasResolvedExpr (all_hold o)
all_resolved o ts = (truth (core.all_of ts.0.before ts.0.last), ap all_hold ts.1)

any_resolved : (o : Option Tests) → Tests_are o → HasResolvedExpr (one_holds o)
any_resolved o ts = (truth (core.any_of ts.0.before ts.0.last), ap one_holds ts.1)

ordered_resolved : (c : Comparison) (o : Option core.Expr) (a : core.Expr) (r : Option core.Expr) (b : core.Expr) →
    o ≡ Some a → r ≡ Some b → HasResolvedExpr (ordered c o r)
ordered_resolved c o a r b x y = (truth (core.compare c a b), ap (λ (z : Option core.Expr). ordered c z r) x ∙ ap (ordered c (Some a)) y)

equal_resolved : (c : Comparison) (p q : ℕ) (s t : ResolvedExpr) → NoneIn (unlike p q (Some s) (Some t)) →
    HasResolvedExpr (equated c (Some s) (Some t))
equal_resolved c p q (value a s) (value b t) none = (truth (core.compare c a b), ap (λ (x : Bool). if x then Some (truth (core.compare c a b)) else None) (fit_if q (alike_sorts s t) _ none))
equal_resolved c p q (value a s) (truth d) none = absurd (not_one WrongType q none)
equal_resolved c p q (truth d) (value b t) none = absurd (not_one WrongType q none)
equal_resolved c p q (truth d) (truth g) none = absurd (not_one WrongType p none)

equated_resolved : (c : Comparison) (p q : ℕ) (o r : Option ResolvedExpr) → HasResolvedExpr o → HasResolvedExpr r →
    NoneIn (unlike p q o r) → HasResolvedExpr (equated c o r)
equated_resolved c p q o r s t none =
    let both : NoneIn (unlike p q (Some s.0) (Some t.0)) = subst (λ (y : Option ResolvedExpr). NoneIn (unlike p q (Some s.0) y)) t.1 (subst (λ (x : Option ResolvedExpr). NoneIn (unlike p q x r)) s.1 none) in
    let e = equal_resolved c p q s.0 t.0 both in
    (e.0, ap (λ (x : Option ResolvedExpr). equated c x r) s.1 ∙ ap (equated c (Some s.0)) t.1 ∙ e.1)

-- what a chain of numbers, and one of conditions, has to have
number_of : (p : ℕ) (o : Option ResolvedExpr) → HasResolvedExpr o → NoneIn (misfit (Value Integer) p o) →
    (e : core.Expr) × (number_resolved o ≡ Some e)
number_of p o s none = wanted_value Integer o s.0 s.1 (fit_is (Value Integer) p o s.0 s.1 none)

test_of : (p : ℕ) (o : Option ResolvedExpr) → HasResolvedExpr o → NoneIn (misfit Condition p o) →
    (c : core.Condition) × (test_resolved o ≡ Some c)
test_of p o s none = wanted_test o s.0 s.1 (fit_is Condition p o s.0 s.1 none)

compare_resolved : (c : written.Comparison) (p q : ℕ) (o r : Option ResolvedExpr) → HasResolvedExpr o →
    HasResolvedExpr r → NoneIn (misfit (side_want c) p o) → NoneIn (misfit (side_want c) q r) →
    NoneIn (side_faults c p q o r) → HasResolvedExpr (compared c o r)
compare_resolved sign.Equal p q o r s t a b none = equated_resolved Equal p q o r s t none
compare_resolved sign.NotEqual p q o r s t a b none = equated_resolved NotEqual p q o r s t none
compare_resolved sign.Less p q o r s t a b none = let x = number_of p o s a in let y = number_of q r t b in ordered_resolved Less (number_resolved o) x.0 (number_resolved r) y.0 x.1 y.1
compare_resolved sign.LessOrEqual p q o r s t a b none = let x = number_of p o s a in let y = number_of q r t b in ordered_resolved LessOrEqual (number_resolved o) x.0 (number_resolved r) y.0 x.1 y.1
compare_resolved sign.Greater p q o r s t a b none = let x = number_of p o s a in let y = number_of q r t b in ordered_resolved Greater (number_resolved o) x.0 (number_resolved r) y.0 x.1 y.1
compare_resolved sign.GreaterOrEqual p q o r s t a b none = let x = number_of p o s a in let y = number_of q r t b in ordered_resolved GreaterOrEqual (number_resolved o) x.0 (number_resolved r) y.0 x.1 y.1

-- a chain of numbers
numbers_are : (sc : Scope) (level : Level) (e : Expr) (links : Links) → operand_want level ≡ Value Integer →
    NoneIn ((expr_faults sc e ++ misfit (operand_want level) (start_of e) (typed sc e)) ++ link_faults sc level links) →
    HasResolvedExpr (typed sc e) → Links_are (typed_links sc links) → HasResolvedExpr (chained (number_resolved (typed sc e)) (typed_links sc links))
numbers_are sc level e links w none s rest =
    let a = expr_faults sc e in
    let b = misfit (operand_want level) (start_of e) (typed sc e) in
    let n = number_of (start_of e) (typed sc e) s (subst (λ (v : Want). NoneIn (misfit v (start_of e) (typed sc e))) w (none_right a b (none_left (a ++ b) (link_faults sc level links) none))) in
    chain_resolved (number_resolved (typed sc e)) n.0 (typed_links sc links) rest.0 n.1 rest.1

-- what is listed for the first operand, and for the others
first_none : (sc : Scope) (level : Level) (e : Expr) (links : Links) →
    NoneIn ((expr_faults sc e ++ misfit (operand_want level) (start_of e) (typed sc e)) ++ link_faults sc level links) → NoneIn (expr_faults sc e)
first_none sc level e links none = none_left (expr_faults sc e) (misfit (operand_want level) (start_of e) (typed sc e)) (none_left (expr_faults sc e ++ misfit (operand_want level) (start_of e) (typed sc e)) (link_faults sc level links) none)

others_none : (sc : Scope) (level : Level) (e : Expr) (links : Links) →
    NoneIn ((expr_faults sc e ++ misfit (operand_want level) (start_of e) (typed sc e)) ++ link_faults sc level links) → NoneIn (link_faults sc level links)
others_none sc level e links none = none_right (expr_faults sc e ++ misfit (operand_want level) (start_of e) (typed sc e)) (link_faults sc level links) none

-- ---- expressions

mutual
  pub resolved_expr_is : (sc : Scope) → Context sc → (e : Expr) → NoneIn (expr_faults sc e) →
      HasResolvedExpr (typed sc e)
  resolved_expr_is sc c (int n) none = let z = number_is n none in (value (core.number z.0) (sort.Of Integer), ap literal z.1)
  resolved_expr_is sc c (null at) none = (value core.null sort.Null, refl)
  resolved_expr_is sc c (place p) none = place_is sc c p none
  resolved_expr_is sc c (paren at e) none = paren_resolved (typed sc e) (resolved_expr_is sc c e none)
  resolved_expr_is sc c (prefix Negate at e) none =
      let s = resolved_expr_is sc c e (none_left (expr_faults sc e) _ none) in
      let n = number_of (start_of e) (typed sc e) s (none_right (expr_faults sc e) _ none) in
      negated_resolved (number_resolved (typed sc e)) n.0 n.1
  resolved_expr_is sc c (prefix Not at e) none =
      let s = resolved_expr_is sc c e (none_left (expr_faults sc e) _ none) in
      let n = test_of (start_of e) (typed sc e) s (none_right (expr_faults sc e) _ none) in
      not_resolved (test_resolved (typed sc e)) n.0 n.1
  resolved_expr_is sc c (chain Term e links) none =
      numbers_are sc Term e links refl none (resolved_expr_is sc c e (first_none sc Term e links none)) (links_are sc c Term links (λ x. refl) refl (others_none sc Term e links none))
  resolved_expr_is sc c (chain Sum e links) none =
      numbers_are sc Sum e links refl none (resolved_expr_is sc c e (first_none sc Sum e links none)) (links_are sc c Sum links (λ x. refl) refl (others_none sc Sum e links none))
  resolved_expr_is sc c (chain Conjunction e links) none =
      let a = expr_faults sc e in
      let b = misfit Condition (start_of e) (typed sc e) in
      let head = none_left (a ++ b) (link_faults sc Conjunction links) none in
      let s = resolved_expr_is sc c e (none_left a b head) in
      let n = test_of (start_of e) (typed sc e) s (none_right a b head) in
      all_resolved (typed_tests sc (test_resolved (typed sc e)) links) (tests_are sc c Conjunction links refl (test_resolved (typed sc e)) n.0 n.1 (none_right (a ++ b) (link_faults sc Conjunction links) none))
  resolved_expr_is sc c (chain Disjunction e links) none =
      let a = expr_faults sc e in
      let b = misfit Condition (start_of e) (typed sc e) in
      let head = none_left (a ++ b) (link_faults sc Disjunction links) none in
      let s = resolved_expr_is sc c e (none_left a b head) in
      let n = test_of (start_of e) (typed sc e) s (none_right a b head) in
      any_resolved (typed_tests sc (test_resolved (typed sc e)) links) (tests_are sc c Disjunction links refl (test_resolved (typed sc e)) n.0 n.1 (none_right (a ++ b) (link_faults sc Disjunction links) none))
  resolved_expr_is sc c (compare x o y) none =
      let ax = expr_faults sc x in
      let mx = misfit (side_want o) (start_of x) (typed sc x) in
      let ay = expr_faults sc y in
      let my = misfit (side_want o) (start_of y) (typed sc y) in
      let sides = side_faults o (start_of x) (start_of y) (typed sc x) (typed sc y) in
      let n4 = none_left (((ax ++ mx) ++ ay) ++ my) sides none in
      let n3 = none_left ((ax ++ mx) ++ ay) my n4 in
      let n2 = none_left (ax ++ mx) ay n3 in
      compare_resolved o (start_of x) (start_of y) (typed sc x) (typed sc y)
      (resolved_expr_is sc c x (none_left ax mx n2)) (resolved_expr_is sc c y (none_right (ax ++ mx) ay n3))
      (none_right ax mx n2) (none_right ((ax ++ mx) ++ ay) my n4) (none_right (((ax ++ mx) ++ ay) ++ my) sides none)

  links_are : (sc : Scope) → Context sc → (level : Level) (links : Links) →
      ((p : ℕ × syntax_operator.Operator) →
      operator_faults level p.0 p.1 ≡ found_if (not (is_some (operator_of p.1))) (told WrongType p.0 why.OperatorOfConditions)) → operand_want level ≡ Value Integer → NoneIn (link_faults sc level links) → Links_are (typed_links sc links)
  links_are sc c level no_links of w none = (core.no_operations, refl)
  links_are sc c level (link o e rest) of w none =
      let q = operator_faults level (start_of e) o in
      let a = expr_faults sc e in
      let b = misfit (operand_want level) (start_of e) (typed sc e) in
      let head = none_left ((q ++ a) ++ b) (link_faults sc level rest) none in
      let s = resolved_expr_is sc c e (none_right q a (none_left (q ++ a) b head)) in
      let n = number_of (start_of e) (typed sc e) s (subst (λ (v : Want). NoneIn (misfit v (start_of e) (typed sc e))) w (none_right (q ++ a) b head)) in
      let so = is_there (operator_of o) (not_found (not (is_some (operator_of o))) (told WrongType (start_of e) why.OperatorOfConditions) (subst NoneIn (of (start_of e, o)) (none_left q a (none_left (q ++ a) b head)))) in
      link_resolved (operator_of o) so.0 (number_resolved (typed sc e)) n.0 (typed_links sc rest) so.1 n.1 (links_are sc c level rest of w (none_right ((q ++ a) ++ b) (link_faults sc level rest) none))

  tests_are : (sc : Scope) → Context sc → (level : Level) (links : Links) → operand_want level ≡ Condition →
      (o : Option core.Condition) (d : core.Condition) → o ≡ Some d → NoneIn (link_faults sc level links) →
      Tests_are (typed_tests sc o links)
  tests_are sc c level no_links w o d is none = one_resolved o d is
  tests_are sc c level (link p e rest) w o d is none =
      let q = operator_faults level (start_of e) p in
      let a = expr_faults sc e in
      let b = misfit (operand_want level) (start_of e) (typed sc e) in
      let head = none_left ((q ++ a) ++ b) (link_faults sc level rest) none in
      let s = resolved_expr_is sc c e (none_right q a (none_left (q ++ a) b head)) in
      let n = test_of (start_of e) (typed sc e) s (subst (λ (v : Want). NoneIn (misfit v (start_of e) (typed sc e))) w (none_right (q ++ a) b head)) in
      more_resolved o d (typed_tests sc (test_resolved (typed sc e)) rest) is (tests_are sc c level rest w (test_resolved (typed sc e)) n.0 n.1 (none_right ((q ++ a) ++ b) (link_faults sc level rest) none))

  place_is : (sc : Scope) → Context sc → (p : Place) → NoneIn (place_faults sc p) → HasResolvedExpr (typed_place sc p)
  place_is sc c (lone x) none = name_resolved sc.decls c.clean x.span.start (meaning sc x.text) (meaning_known sc c x.text) none
  place_is sc c (element x e) none =
      let a = no_elements sc.decls x.span.start (meaning sc x.text) in
      let b = expr_faults sc e in
      let g = misfit (Value Integer) (start_of e) (typed sc e) in
      let n2 = none_left (a ++ b) g none in
      let s = resolved_expr_is sc c e (none_right a b n2) in
      let n = number_of (start_of e) (typed sc e) s (none_right (a ++ b) g none) in
      let v = element_resolved sc.decls c.clean x.span.start (meaning sc x.text) n.0 (meaning_known sc c x.text) (none_left a b n2) in
      (v.0, ap (element_value sc.decls x.span.start (meaning sc x.text)) n.1 ∙ v.1)
  place_is sc c (path x fs) none =
      path_resolved sc.decls x.span.start (meaning sc x.text) fs (path_is sc.decls c.clean x.span.start (meaning sc x.text) fs (meaning_known sc c x.text) none)

-- a resolved expression that fits the expectation
pub record Fitting (w : Want) (o : Option ResolvedExpr) : Type 0 where
  pub resolved_expr : ResolvedExpr
  pub is : o ≡ Some resolved_expr
  pub fit : fits w resolved_expr ≡ true

pub wanted_is : (sc : Scope) → Context sc → (w : Want) (e : Expr) → NoneIn (wanted_faults sc w e) →
    Fitting w (typed sc e)
wanted_is sc c w e none =
    let s = resolved_expr_is sc c e (none_left (expr_faults sc e) (misfit w (start_of e) (typed sc e)) none) in
    record { resolved_expr = s.0; is = s.1; fit = fit_is w (start_of e) (typed sc e) s.0 s.1 (none_right (expr_faults sc e) (misfit w (start_of e) (typed sc e)) none) }

-- a value, if one is expected
pub value_is : (sc : Scope) → Context sc → (t : core_type.ValueType) (e : Expr) →
    NoneIn (wanted_faults sc (Value t) e) → (x : core.Expr) × (as_value (fitting (Value t) (typed sc e)) ≡ Some x)
value_is sc c t e none = let s = wanted_is sc c (Value t) e none in wanted_value t (typed sc e) s.resolved_expr s.is s.fit

pub test_is : (sc : Scope) → Context sc → (e : Expr) → NoneIn (wanted_faults sc Condition e) →
    (x : core.Condition) × (test_resolved (typed sc e) ≡ Some x)
test_is sc c e none = let s = wanted_is sc c Condition e none in wanted_test (typed sc e) s.resolved_expr s.is s.fit
