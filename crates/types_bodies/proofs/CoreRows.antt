-- The views of a resolved `Vec` in a tree, and of the same `Vec` by itself.
use Rattle.std.proofs.Common.{◌≡◌, Vec, Global, refl, ap, ◌∙◌}
use Rattle.std.specs.Prelude.{Box}
use mathlib.Core.Former.{Count}
use Rattle.core_lang.specs.declared.tree.Expr as e
use Rattle.core_lang.specs.declared.tree.Expr.{Chain, Chain', Row_of-Operation, end_of-Operation, more_of-Operation, items-the_row-Operation, items_hidden-the_row-Operation-0}
use Rattle.core_lang.specs.declared.tree.Operation as o
use Rattle.core_lang.specs.declared.tree.Condition as c
use Rattle.core_lang.specs.declared.tree.Condition.{And, And', Or, Or', Row_of-Condition, end_of-Condition, more_of-Condition, items-the_row-Condition, items_hidden-the_row-Condition-0}
use Rattle.resolution.specs.Core.{chain, operation, condition, all_of, any_of}
use Rattle.resolution.specs.CoreViews.{core_expr, core_operations_row, core_operations, core_condition, core_conditions_row, core_conditions}

core_operations_row-items : (n : _) (row : Row_of-Operation n) → core_operations_row row ≡ core_operations (items-the_row-Operation n row)
core_operations_row-items n end_of-Operation = refl
core_operations_row-items n (more_of-Operation op x rest) = ap (operation op (core_expr x)) (core_operations_row-items _ rest)

abbrev row_of : e.Expr → (n : Count) × Row_of-Operation n
row_of (Chain' _ _ _ row) = (_, row)
row_of _ = (_, end_of-Operation)

pub core_chain_view : (first : Box e.Expr Global) (rest : Vec o.Operation Global) → core_expr (Chain first rest) ≡ chain (core_expr first.value) (core_operations rest.items)
core_chain_view first rest =
    let row = row_of (Chain first rest) in
    ap (chain (core_expr first.value)) (core_operations_row-items row.0 row.1 ∙ ap core_operations (items_hidden-the_row-Operation-0 rest))

-- ---- conditions

core_conditions_row-items : (n : _) (row : Row_of-Condition n) → core_conditions_row row ≡ core_conditions (items-the_row-Condition n row)
core_conditions_row-items n end_of-Condition = refl
core_conditions_row-items n (more_of-Condition x rest) = ap (condition (core_condition x)) (core_conditions_row-items _ rest)

abbrev condition_row : c.Condition → (n : Count) × Row_of-Condition n
condition_row (And' _ row _ _) = (_, row)
condition_row (Or' _ row _ _) = (_, row)
condition_row _ = (_, end_of-Condition)

pub core_and_view : (before : Vec c.Condition Global) (last : Box c.Condition Global) → core_condition (And before last) ≡ all_of (core_conditions before.items) (core_condition last.value)
core_and_view before last =
    let row = condition_row (And before last) in
    ap (λ cs. all_of cs (core_condition last.value)) (core_conditions_row-items row.0 row.1 ∙ ap core_conditions (items_hidden-the_row-Condition-0 before))

pub core_or_view : (before : Vec c.Condition Global) (last : Box c.Condition Global) → core_condition (Or before last) ≡ any_of (core_conditions before.items) (core_condition last.value)
core_or_view before last =
    let row = condition_row (Or before last) in
    ap (λ cs. any_of cs (core_condition last.value)) (core_conditions_row-items row.0 row.1 ∙ ap core_conditions (items_hidden-the_row-Condition-0 before))
