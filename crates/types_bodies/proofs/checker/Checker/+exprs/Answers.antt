use Rattle.std.proofs.Common.{◌≡◌, refl, subst, ap, sym, ◌∙◌, List, [], drop}
use Rattle.std.proofs.lemmas.Result.{IfOk-weaker}
use Rattle.std.specs.Prelude.{IfOk, ◌⊎◌, option_map}
use Rattle.std.proofs.Math.ListN.{drop_of_length-le}
use Rattle.syntax.specs.Grammar.{level_of}
use Rattle.syntax.specs.Views.{ident, expr_of, joined_of, element_of, path_of, links_of}
use Rattle.syntax.specs.declared.tree.Expr as tree
use Rattle.syntax.specs.declared.tree.Link as tree_link
use Rattle.syntax.specs.declared.tree.Level.TheVariants.{Sum, Conjunction, Disjunction}
use Rattle.resolution.specs.Working.TypedExpressions.{chained, compared, named_value, number_resolved, parenthesised}
use Rattle.resolution.specs.Working.TypedExpressions.{test_resolved, typed, typed_links, typed_place}
use Rattle.resolution.specs.CoreViews.{core_expr}
use Rattle.resolution.specs.Working.Findings.{found_in}
use Rattle.resolution.specs.Working.FaultLists.{expr_faults, link_faults, misfit, wanted_faults}
use Rattle.resolution.specs.Faults.{start_of}
use Rattle.resolution.specs.declared.wanted.Want.TheVariants.{Value}
use Rattle.core_lang.specs.declared.value.ValueType.TheVariants.{Integer}
use Rattle.types_bodies.specs.Working.Checkers.{scope}
use Rattle.types_bodies.specs.Working.Parts.{so_far}
use Rattle.types_bodies.specs.Working.ResolvedExprs.{resolved_expr_of, seen, tests_of, holds}
use Rattle.types_symbols.specs.Theory.Steps.{on_ok, on_ok_by}
use Rattle.types_bodies.proofs.Chains.{operations_joined, operations_end, tests_joined, tests_first, tests_end, link_step, link_fault_step, test_step, test_fault_step, chain_seen, pair_seen, one_operation, two_tests, one_link_faults, second_test_faults, numbers_value, tests_value, numbers_faults, tests_faults, sides_value, sides_faults, second_side, side_blamed}
use Rattle.types_bodies.proofs.Indices.{element_seen, index_blamed}
use Rattle.types_bodies.proofs.checker.Checker.+exprs.Goals as goal

pub joined-returns-in_ok-first-in-Term-clause-value : goal.joined-returns-in_ok-first-in-Term-clause-value
joined-returns-in_ok-first-in-Term-clause-value t c =
    let a = c.in-Pair in
    subst (λ s. IfOk c.two_numbers.result (λ r. option_map resolved_expr_of r ≡ s))
    (numbers_value (scope c.args.self.now) c.level.result (expr_of a.left) _ _ (pair_seen c.args.e.now a.op a.left a.right c.level.result a.is c.level.ensures) _ _ c.in-Term.is c.in_ok-first-in-Term.ensures.value refl)
    c.two_numbers.ensures.value

pub joined-returns-in_ok-first-in-Term-clause-faults : goal.joined-returns-in_ok-first-in-Term-clause-faults
joined-returns-in_ok-first-in-Term-clause-faults t c =
    let a = c.in-Pair in
    on_ok_by c.two_numbers.result
    (numbers_faults (scope c.args.self.now) c.level.result (expr_of a.left) _ _ (pair_seen c.args.e.now a.op a.left a.right c.level.result a.is c.level.ensures) _ _ _ c.in-Term.is c.in_ok-first-in-Term.ensures.faults)
    c.two_numbers.ensures.faults

pub joined-returns-in_ok-first-in-Conjunction-clause-value : goal.joined-returns-in_ok-first-in-Conjunction-clause-value
joined-returns-in_ok-first-in-Conjunction-clause-value t c =
    let a = c.in-Pair in
    let sc = scope c.args.self.now in
    let k = level_of a.op in
    subst (λ s. IfOk c.two_tests.result (λ r. option_map resolved_expr_of r ≡ s))
    (tests_value sc k (expr_of a.left) _ _ (pair_seen c.args.e.now a.op a.left a.right k a.is refl) _ _ (subst (λ x. (x ≡ Conjunction) ⊎ (x ≡ Disjunction)) c.level.ensures c.in-Conjunction.is) c.in_ok-first-in-Conjunction.ensures.value refl)
    c.two_tests.ensures.value

pub joined-returns-in_ok-first-in-Conjunction-clause-faults : goal.joined-returns-in_ok-first-in-Conjunction-clause-faults
joined-returns-in_ok-first-in-Conjunction-clause-faults t c =
    let a = c.in-Pair in
    on_ok_by c.two_tests.result
    (tests_faults (scope c.args.self.now) c.level.result (expr_of a.left) _ _ (pair_seen c.args.e.now a.op a.left a.right c.level.result a.is c.level.ensures) _ _ _ c.in-Conjunction.is c.in_ok-first-in-Conjunction.ensures.faults)
    c.two_tests.ensures.faults

pub joined-returns-in_ok-first-in-Term-level-clause-value : goal.joined-returns-in_ok-first-in-Term-level-clause-value
joined-returns-in_ok-first-in-Term-level-clause-value t c =
    let a = c.in-Chain in
    subst (λ s. IfOk c.more_numbers.result (λ r. option_map resolved_expr_of r ≡ s))
    (numbers_value (scope c.args.self.now) a.level (expr_of a.first) _ _ (chain_seen c.args.e.now a.level a.first a.links _ a.is c.deref-in-Term-level.ensures.value) _ _ c.in-Term-level.is c.in_ok-first-in-Term-level.ensures.value refl)
    c.more_numbers.ensures.value

pub joined-returns-in_ok-first-in-Term-level-clause-faults : goal.joined-returns-in_ok-first-in-Term-level-clause-faults
joined-returns-in_ok-first-in-Term-level-clause-faults t c =
    let a = c.in-Chain in
    on_ok_by c.more_numbers.result
    (numbers_faults (scope c.args.self.now) a.level (expr_of a.first) _ _ (chain_seen c.args.e.now a.level a.first a.links _ a.is c.deref-in-Term-level.ensures.value) _ _ _ c.in-Term-level.is c.in_ok-first-in-Term-level.ensures.faults)
    c.more_numbers.ensures.faults

pub joined-returns-in_ok-tests-in-Conjunction-level-clause-value : goal.joined-returns-in_ok-tests-in-Conjunction-level-clause-value
joined-returns-in_ok-tests-in-Conjunction-level-clause-value t c =
    let a = c.in-Chain in
    subst (λ s. IfOk c.tested.result (λ r. option_map resolved_expr_of r ≡ s))
    (tests_value (scope c.args.self.now) a.level (expr_of a.first) _ _ (chain_seen c.args.e.now a.level a.first a.links _ a.is c.deref.ensures.value) _ _ c.in-Conjunction-level.is c.in_ok-first-in-Conjunction-level.ensures.value c.in_ok-tests-in-Conjunction-level.ensures.value)
    c.tested.ensures

pub joined-returns-in_ok-tests-in-Conjunction-level-clause-faults : goal.joined-returns-in_ok-tests-in-Conjunction-level-clause-faults
joined-returns-in_ok-tests-in-Conjunction-level-clause-faults t c =
    let a = c.in-Chain in
    on_ok c.tested.result (tests_faults (scope c.args.self.now) a.level (expr_of a.first) _ _ (chain_seen c.args.e.now a.level a.first a.links _ a.is c.deref.ensures.value) _ _ _ c.in-Conjunction-level.is c.in_ok-first-in-Conjunction-level.ensures.faults c.in_ok-tests-in-Conjunction-level.ensures.faults)

pub joined-returns-in_ok-left-in-Compare-clause-value : goal.joined-returns-in_ok-left-in-Compare-clause-value
joined-returns-in_ok-left-in-Compare-clause-value t c =
    let a = c.in-Compare in
    subst (λ s. IfOk c.two_sides.result (λ r. option_map resolved_expr_of r ≡ s))
    (sides_value (scope c.args.self.now) a.c (expr_of a.left) (expr_of a.right) _ (sym (ap joined_of a.is)) _ c.in_ok-left-in-Compare.ensures.value)
    c.two_sides.ensures.value

pub joined-returns-in_ok-left-in-Compare-clause-faults : goal.joined-returns-in_ok-left-in-Compare-clause-faults
joined-returns-in_ok-left-in-Compare-clause-faults t c =
    let a = c.in-Compare in
    let sc = scope c.args.self.now in
    on_ok_by c.two_sides.result
    (sides_faults sc a.c (expr_of a.left) (expr_of a.right) _ (sym (ap joined_of a.is)) _ _ _ _ _ c.in_ok-left-in-Compare.ensures.start c.in_ok-left-in-Compare.ensures.value
    (c.in_ok-left-in-Compare.ensures.faults ∙ ap (λ w. found_in c.args.firsts.now (wanted_faults sc w (expr_of a.left))) c.side_want.ensures))
    c.two_sides.ensures.faults

pub two_sides-returns-clause-faults : goal.two_sides-returns-clause-faults
two_sides-returns-clause-faults t c =
    second_side (scope c.args.self.now) c.args.c (expr_of c.args.right.now) c.args.left.start _ _ _ _ _ _ _ c.side_want.ensures c.in-Ok.ensures.start c.in-Ok.ensures.value c.in-Ok.ensures.faults c.compared.ensures.faults

pub element-returns-clause-value : goal.element-returns-clause-value
element-returns-clause-value t c =
    let sc = scope c.args.self.now in
    let x = c.args.element.now in
    subst (λ v. IfOk c.element_value.result (λ r. option_map resolved_expr_of r ≡ v))
    (element_seen sc.decls (ident x.name).span.start _ _ _ _ _ c.meaning.ensures c.indexed-indexed.ensures.value c.in_ok-index.ensures.value) c.element_value.ensures

pub element-returns-clause-faults : goal.element-returns-clause-faults
element-returns-clause-faults t c =
    let sc = scope c.args.self.now in
    let x = c.args.element.now in
    let start = (ident x.name).span.start in
    let e = expr_of x.index in
    on_ok c.element_value.result
    (c.in_ok-index.ensures.faults
    ∙ index_blamed sc.decls start _ _ _ _ (expr_faults sc e) (misfit (Value Integer) (start_of e) (typed sc e)) c.meaning.ensures c.indexed-indexed.ensures.faults)

pub two_numbers-returns-clause-value : goal.two_numbers-returns-clause-value
two_numbers-returns-clause-value t c =
    subst (λ x. IfOk c.chained.result (λ r. option_map resolved_expr_of r ≡ chained (option_map core_expr c.args.first) x)) c.in-Ok.ensures.value c.chained.ensures

pub two_numbers-returns-clause-faults : goal.two_numbers-returns-clause-faults
two_numbers-returns-clause-faults t c = on_ok c.chained.result c.in-Ok.ensures.faults

pub more_numbers-returns-clause-value : goal.more_numbers-returns-clause-value
more_numbers-returns-clause-value t c =
    subst (λ x. IfOk c.chained.result (λ r. option_map resolved_expr_of r ≡ chained (option_map core_expr c.args.first) x)) c.in-Ok.ensures.value c.chained.ensures

pub more_numbers-returns-clause-faults : goal.more_numbers-returns-clause-faults
more_numbers-returns-clause-faults t c = on_ok c.chained.result c.in-Ok.ensures.faults

pub two_tests-returns-clause-value : goal.two_tests-returns-clause-value
two_tests-returns-clause-value t c =
    let sc = scope c.args.self.now in
    let both = two_tests sc c.args.op (expr_of c.args.right.now) c.args.first c.in-Ok.operand _ _ c.in_ok-one.ensures c.in-Ok.ensures.value c.in_ok-tests.ensures in
    subst (λ x. IfOk c.tested.result (λ r. option_map resolved_expr_of r ≡ x)) (ap (λ k. holds k (option_map tests_of c.in_ok-tests.tests)) c.level.ensures ∙ ap (holds (level_of c.args.op)) both) c.tested.ensures

pub two_tests-returns-clause-faults : goal.two_tests-returns-clause-faults
two_tests-returns-clause-faults t c =
    on_ok c.tested.result (second_test_faults (scope c.args.self.now) c.args.op (expr_of c.args.right.now) _ _ c.in-Ok.ensures.faults)

pub side-returns-clause-faults : goal.side-returns-clause-faults
side-returns-clause-faults t c =
    side_blamed (scope c.args.self.now) c.args.w (expr_of c.args.e.now) _ _ _ _ _ c.start_of-start.ensures c.in_ok-value.ensures.value c.in_ok-value.ensures.faults c.report_misfit.ensures

pub operation-returns-clause-value : goal.operation-returns-clause-value
operation-returns-clause-value t c =
    IfOk-weaker c.with_operation.result _ _
    (λ made is. one_operation (scope c.args.self.now) c.args.op (expr_of c.args.operand.now) _ c.operator-operator.result c.in_ok-number.number made c.in-Ok.ensures.items c.operator-operator.ensures.value c.in_ok-number.ensures.value is)
    c.with_operation.ensures

pub operation-returns-clause-faults : goal.operation-returns-clause-faults
operation-returns-clause-faults t c =
    on_ok c.with_operation.result (one_link_faults (scope c.args.self.now) c.args.op (expr_of c.args.operand.now) c.start_of.result _ _ _ c.start_of.ensures c.operator-operator.ensures.faults c.in_ok-number.ensures.faults)

pub operations-loop-link-preserved : goal.operations-loop-link-preserved
operations-loop-link-preserved t c =
    let sc = scope c.args.self.now in
    record {
      value = link_step sc c.args.links.now c.loop-link.link-index c.link-item.result c.loop-link-test.true c.link-item.is _ _ _ _ _ c.in_ok-operations.ensures c.operator-op.ensures.value c.in-Ok.ensures.value c.loop-link.invariant.value;
      faults = link_fault_step sc c.args.links.now c.loop-link.link-index c.link-item.result c.loop-link-test.true c.link-item.is _ _ _ _ c.start_of.ensures c.operator-op.ensures.faults c.in-Ok.ensures.faults c.loop-link.invariant.faults;
    }

pub operations-returns-clause-value : goal.operations-returns-clause-value
operations-returns-clause-value t c =
    let sc = scope c.args.self.now in
    let none : drop c.loop-link.link-index c.args.links.now ≡ [] = drop_of_length-le c.args.links.now c.loop-link-test.false in
    sym (operations_end c.loop-link.operations) ∙ ap (λ (ls : List tree_link.Link). operations_joined (option_map (λ os. os.items) c.loop-link.operations) (typed_links sc (links_of ls))) (sym none) ∙ c.loop-link.invariant.value

pub tests-loop-link-init : goal.tests-loop-link-init
tests-loop-link-init t c =
    let sc = scope c.args.self.now in
    record {
      value = ap (λ x. tests_joined sc x (links_of c.args.links.now)) c.in_ok-tests.ensures ∙ tests_first sc c.args.first (links_of c.args.links.now);
      faults = refl;
    }

pub tests-loop-link-preserved : goal.tests-loop-link-preserved
tests-loop-link-preserved t c =
    let sc = scope c.args.self.now in
    record {
      value = test_step sc c.args.links.now c.loop-link.link-index c.link-item.result c.loop-link-test.true c.link-item.is _ _ _ _ c.in_ok-tests-2.ensures c.in-Ok.ensures.value c.loop-link.invariant.value;
      faults = test_fault_step sc c.args.links.now c.loop-link.link-index c.link-item.result c.loop-link-test.true c.link-item.is _ _ c.in-Ok.ensures.faults c.loop-link.invariant.faults;
    }

pub tests-returns-clause-value : goal.tests-returns-clause-value
tests-returns-clause-value t c =
    let sc = scope c.args.self.now in
    let none : drop c.loop-link.link-index c.args.links.now ≡ [] = drop_of_length-le c.args.links.now c.loop-link-test.false in
    sym (tests_end sc c.loop-link.tests) ∙ ap (λ (ls : List tree_link.Link). tests_joined sc (option_map so_far c.loop-link.tests) (links_of ls)) (sym none) ∙ c.loop-link.invariant.value

pub two_sides-returns-clause-value : goal.two_sides-returns-clause-value
two_sides-returns-clause-value t c = c.compared.ensures.value ∙ ap (compared c.args.c (seen c.args.left)) c.in-Ok.ensures.value

pub operations-returns-clause-faults : goal.operations-returns-clause-faults
operations-returns-clause-faults t c =
    let none : drop c.loop-link.link-index c.args.links.now ≡ [] = drop_of_length-le c.args.links.now c.loop-link-test.false in
    ap (λ (ls : List tree_link.Link). found_in c.loop-link.firsts (link_faults (scope c.args.self.now) Sum (links_of ls))) (sym none) ∙ c.loop-link.invariant.faults

pub tests-returns-clause-faults : goal.tests-returns-clause-faults
tests-returns-clause-faults t c =
    let none : drop c.loop-link.link-index c.args.links.now ≡ [] = drop_of_length-le c.args.links.now c.loop-link-test.false in
    ap (λ (ls : List tree_link.Link). found_in c.loop-link.firsts (link_faults (scope c.args.self.now) Conjunction (links_of ls))) (sym none) ∙ c.loop-link.invariant.faults

pub number-returns-clause-value : goal.number-returns-clause-value
number-returns-clause-value t c = c.number_in.ensures ∙ ap number_resolved c.in_ok-side.ensures.value

pub test-returns-clause-value : goal.test-returns-clause-value
test-returns-clause-value t c = c.test_in.ensures ∙ ap test_resolved c.in_ok-side.ensures.value

pub expr-returns-in_ok-inner-in-Paren-clause-value : goal.expr-returns-in_ok-inner-in-Paren-clause-value
expr-returns-in_ok-inner-in-Paren-clause-value t c =
    let sc = scope c.args.self.now in
    c.parenthesised.ensures
    ∙ ap parenthesised (c.in_ok-inner-in-Paren.ensures.value ∙ ap (λ (x : tree.Expr). typed sc (expr_of x)) c.deref-in-Paren.ensures)
    ∙ sym (ap (λ (x : tree.Expr). typed sc (expr_of x)) c.in-Paren.is)

pub expr-returns-in-Name-clause-value : goal.expr-returns-in-Name-clause-value
expr-returns-in-Name-clause-value t c =
    let sc = scope c.args.self.now in
    c.named.ensures.value ∙ ap (named_value sc.decls (ident c.in-Name.name).span.start) c.meaning.ensures ∙ sym (ap (λ (x : tree.Expr). typed sc (expr_of x)) c.in-Name.is)

pub expr-returns-in-Int-clause-value : goal.expr-returns-in-Int-clause-value
expr-returns-in-Int-clause-value t c = c.literal.ensures.value ∙ sym (ap (λ (x : tree.Expr). typed (scope c.args.self.now) (expr_of x)) c.in-Int.is)

pub expr-returns-in-Path-clause-value : goal.expr-returns-in-Path-clause-value
expr-returns-in-Path-clause-value t c =
    let sc = scope c.args.self.now in
    subst (λ s. IfOk c.path.result (λ r. option_map resolved_expr_of r ≡ s))
    (ap (λ x. typed_place sc (path_of x)) c.deref-in-Path.ensures ∙ sym (ap (λ (x : tree.Expr). typed sc (expr_of x)) c.in-Path.is)) c.path.ensures.value

pub expr-returns-in-Element-clause-value : goal.expr-returns-in-Element-clause-value
expr-returns-in-Element-clause-value t c =
    let sc = scope c.args.self.now in
    subst (λ s. IfOk c.element.result (λ r. option_map resolved_expr_of r ≡ s))
    (ap (λ x. typed_place sc (element_of x)) c.deref.ensures ∙ sym (ap (λ (x : tree.Expr). typed sc (expr_of x)) c.in-Element.is)) c.element.ensures.value
