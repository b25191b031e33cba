-- The depth of the operand stack, over the items of each `Vec`.
use Rattle.std.specs.Prelude.{◌≡◌, ◌+◌, max}
use Rattle.std.proofs.Common.{refl, ap, ◌∙◌, Vec, Box, Global}
use mathlib.Core.Former.{Count}
use Rattle.core_lang.specs.declared.tree.Expr.{Expr, Chain, Row_of-Operation, end_of-Operation, more_of-Operation}
use Rattle.core_lang.specs.declared.tree.Expr.{items-the_row-Operation, items_hidden-the_row-Operation-0}
use Rattle.core_lang.specs.declared.tree.Operation.{Operation}
use Rattle.core_lang.specs.declared.tree.Condition.{Condition, And, Or, Row_of-Condition, end_of-Condition}
use Rattle.core_lang.specs.declared.tree.Condition.{more_of-Condition, items-the_row-Condition}
use Rattle.core_lang.specs.declared.tree.Condition.{items_hidden-the_row-Condition-0}
use Rattle.core_lang.specs.declared.tree.Stmt.{Stmt}
use Rattle.core_lang.specs.declared.tree.Action.{If, IfElse, While, Row_of-Stmt, end_of-Stmt, more_of-Stmt}
use Rattle.core_lang.specs.declared.tree.Action.{items-the_row-Stmt, items_hidden-the_row-Stmt-0}
use Rattle.core_lang.specs.Theory.Lists.{row_of, conditions_of, block_of, else_of}
use Rattle.code.specs.Needs.{expr_need, chain_need, test_need, tests_need, stmt_need, block_need, body_need}
use Rattle.lowering.specs.Working.CodeLists.{operations_need, conditions_need}

pub chain_need-items : (n : Count) (row : Row_of-Operation n) →
    chain_need row ≡ operations_need (items-the_row-Operation n row)
chain_need-items n end_of-Operation = refl
chain_need-items n (more_of-Operation o e rest) = ap (max (1 + expr_need e)) (chain_need-items _ rest)

pub tests_need-items : (n : Count) (row : Row_of-Condition n) →
    tests_need row ≡ conditions_need (items-the_row-Condition n row)
tests_need-items n end_of-Condition = refl
tests_need-items n (more_of-Condition c rest) = ap (max (test_need c)) (tests_need-items _ rest)

pub block_need-items : (n : Count) (row : Row_of-Stmt n) → block_need row ≡ body_need (items-the_row-Stmt n row)
block_need-items n end_of-Stmt = refl
block_need-items n (more_of-Stmt start action rest) = ap (max (stmt_need action)) (block_need-items _ rest)

block_need-vec : (block : Vec Stmt Global) (n : Count) (row : Row_of-Stmt n) →
    items-the_row-Stmt n row ≡ block.items → block_need row ≡ body_need block.items
block_need-vec block n row e = block_need-items n row ∙ ap body_need e

pub expr_need-Chain : (first : Box Expr Global) (rest : Vec Operation Global) →
    expr_need (Chain first rest) ≡ max (expr_need first.value) (operations_need rest.items)
expr_need-Chain first rest =
    let row = row_of (Chain first rest) in
    ap (max (expr_need first.value)) (chain_need-items row.0 row.1 ∙ ap operations_need (items_hidden-the_row-Operation-0 rest))

pub test_need-And : (before : Vec Condition Global) (last : Box Condition Global) →
    test_need (And before last) ≡ max (conditions_need before.items) (test_need last.value)
test_need-And before last =
    let row = conditions_of (And before last) in
    ap (λ n. max n (test_need last.value)) (tests_need-items row.0 row.1 ∙ ap conditions_need (items_hidden-the_row-Condition-0 before))

pub test_need-Or : (before : Vec Condition Global) (last : Box Condition Global) →
    test_need (Or before last) ≡ max (conditions_need before.items) (test_need last.value)
test_need-Or before last =
    let row = conditions_of (Or before last) in
    ap (λ n. max n (test_need last.value)) (tests_need-items row.0 row.1 ∙ ap conditions_need (items_hidden-the_row-Condition-0 before))

pub stmt_need-If : (c : Condition) (a : Vec Stmt Global) → stmt_need (If c a) ≡ max (test_need c) (body_need a.items)
stmt_need-If c a =
    let one = block_of (If c a) in
    ap (max (test_need c)) (block_need-vec a one.0 one.1 (items_hidden-the_row-Stmt-0 a))

pub stmt_need-IfElse : (c : Condition) (a b : Vec Stmt Global) →
    stmt_need (IfElse c a b) ≡ max (test_need c) (max (body_need a.items) (body_need b.items))
stmt_need-IfElse c a b =
    let one = block_of (IfElse c a b) in
    let two = else_of (IfElse c a b) in
    ap (λ x. max (test_need c) (max x (block_need two.1))) (block_need-vec a one.0 one.1 (items_hidden-the_row-Stmt-0 a))
    ∙ ap (λ x. max (test_need c) (max (body_need a.items) x)) (block_need-vec b two.0 two.1 (items_hidden-the_row-Stmt-0 b))

pub stmt_need-While : (c : Condition) (body : Vec Stmt Global) →
    stmt_need (While c body) ≡ max (test_need c) (body_need body.items)
stmt_need-While c body =
    let one = block_of (While c body) in
    ap (max (test_need c)) (block_need-vec body one.0 one.1 (items_hidden-the_row-Stmt-0 body))
