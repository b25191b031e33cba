-- The accesses of a tree's parts over the items of each `Vec`. Nobody has to believe these equations: they are proved
-- here, for proofs of the crates above.
use Rattle.std.specs.Prelude.{◌≡◌, List, ◌++◌}
use Rattle.std.specs.List.{flat_map}
use Rattle.std.proofs.Common.{refl, ap, ◌∙◌, Vec, Box, Global}
use mathlib.Core.Former.{Count}
use Rattle.core_lang.specs.declared.tree.Expr.{Expr, Chain, Row_of-Operation, end_of-Operation, more_of-Operation}
use Rattle.core_lang.specs.declared.tree.Expr.{items-the_row-Operation, items_hidden-the_row-Operation-0}
use Rattle.core_lang.specs.declared.tree.Operation.{Operation}
use Rattle.core_lang.specs.declared.tree.Condition.{Condition, And, Or, Row_of-Condition, end_of-Condition}
use Rattle.core_lang.specs.declared.tree.Condition.{more_of-Condition, items-the_row-Condition}
use Rattle.core_lang.specs.declared.tree.Condition.{items_hidden-the_row-Condition-0}
use Rattle.core_lang.specs.Theory.Lists.{row_of, conditions_of}
use Rattle.locks.specs.Accesses.{Access, in_expr, in_operations, in_condition, in_conditions}

-- the accesses of an operand after its operator
abbrev pub in_operand : Operation → List Access
in_operand o = in_expr o.operand

pub in_operations-items : (n : Count) (row : Row_of-Operation n) →
    in_operations row ≡ flat_map in_operand (items-the_row-Operation n row)
in_operations-items n end_of-Operation = refl
in_operations-items n (more_of-Operation operator operand rest) = ap (λ xs. in_expr operand ++ xs) (in_operations-items _ rest)

pub in_conditions-items : (n : Count) (row : Row_of-Condition n) →
    in_conditions row ≡ flat_map in_condition (items-the_row-Condition n row)
in_conditions-items n end_of-Condition = refl
in_conditions-items n (more_of-Condition c rest) = ap (λ xs. in_condition c ++ xs) (in_conditions-items _ rest)

pub in_expr-Chain : (first : Box Expr Global) (rest : Vec Operation Global) →
    in_expr (Chain first rest) ≡ in_expr first.value ++ flat_map in_operand rest.items
in_expr-Chain first rest =
    let row = row_of (Chain first rest) in
    ap (λ xs. in_expr first.value ++ xs) (in_operations-items row.0 row.1 ∙ ap (flat_map in_operand) (items_hidden-the_row-Operation-0 rest))

pub in_condition-And : (before : Vec Condition Global) (last : Box Condition Global) →
    in_condition (And before last) ≡ flat_map in_condition before.items ++ in_condition last.value
in_condition-And before last =
    let row = conditions_of (And before last) in
    ap (λ xs. xs ++ in_condition last.value) (in_conditions-items row.0 row.1 ∙ ap (flat_map in_condition) (items_hidden-the_row-Condition-0 before))

pub in_condition-Or : (before : Vec Condition Global) (last : Box Condition Global) →
    in_condition (Or before last) ≡ flat_map in_condition before.items ++ in_condition last.value
in_condition-Or before last =
    let row = conditions_of (Or before last) in
    ap (λ xs. xs ++ in_condition last.value) (in_conditions-items row.0 row.1 ∙ ap (flat_map in_condition) (items_hidden-the_row-Condition-0 before))
