-- The views of a resolved `Vec` in a statement, and of the same `Vec` by itself.
use Rattle.std.proofs.Common.{◌≡◌, Vec, Global, refl, ap, ◌∙◌}
use mathlib.Core.Former.{Count}
use Rattle.core_lang.specs.declared.tree.Condition as c
use Rattle.core_lang.specs.declared.tree.Stmt as s
use Rattle.core_lang.specs.declared.tree.Action as a
use Rattle.core_lang.specs.declared.tree.Action.{If, If', IfElse, IfElse', While, While', Row_of-Stmt, end_of-Stmt}
use Rattle.core_lang.specs.declared.tree.Action.{more_of-Stmt, items-the_row-Stmt, items_hidden-the_row-Stmt-0}
use Rattle.resolution.specs.Core.{stmt, if_true, if_else, while_true}
use Rattle.resolution.specs.CoreViews.{core_condition, core_action, core_stmts_row, core_stmts}

core_stmts_row-items : (n : _) (row : Row_of-Stmt n) → core_stmts_row row ≡ core_stmts (items-the_row-Stmt n row)
core_stmts_row-items n end_of-Stmt = refl
core_stmts_row-items n (more_of-Stmt start x rest) = ap (stmt start (core_action x)) (core_stmts_row-items _ rest)

abbrev block_row : a.Action → (n : Count) × Row_of-Stmt n
block_row (If' _ _ row) = (_, row)
block_row (IfElse' _ _ row _ _) = (_, row)
block_row (While' _ _ row) = (_, row)
block_row _ = (_, end_of-Stmt)

abbrev other_row : a.Action → (n : Count) × Row_of-Stmt n
other_row (IfElse' _ _ _ _ row) = (_, row)
other_row _ = (_, end_of-Stmt)

pub core_if_view : (test : c.Condition) (block : Vec s.Stmt Global) →
    core_action (If test block) ≡ if_true (core_condition test) (core_stmts block.items)
core_if_view test block =
    let row = block_row (If test block) in
    ap (if_true (core_condition test)) (core_stmts_row-items row.0 row.1 ∙ ap core_stmts (items_hidden-the_row-Stmt-0 block))

pub core_while_view : (test : c.Condition) (block : Vec s.Stmt Global) →
    core_action (While test block) ≡ while_true (core_condition test) (core_stmts block.items)
core_while_view test block =
    let row = block_row (While test block) in
    ap (while_true (core_condition test)) (core_stmts_row-items row.0 row.1 ∙ ap core_stmts (items_hidden-the_row-Stmt-0 block))

pub core_if_else_view : (test : c.Condition) (block other : Vec s.Stmt Global) →
    core_action (IfElse test block other) ≡ if_else (core_condition test) (core_stmts block.items) (core_stmts other.items)
core_if_else_view test block other =
    let row = block_row (IfElse test block other) in
    let more = other_row (IfElse test block other) in
    ap (λ b. if_else (core_condition test) b (core_stmts_row more.1)) (core_stmts_row-items row.0 row.1 ∙ ap core_stmts (items_hidden-the_row-Stmt-0 block))
    ∙ ap (if_else (core_condition test) (core_stmts block.items)) (core_stmts_row-items more.0 more.1 ∙ ap core_stmts (items_hidden-the_row-Stmt-0 other))
