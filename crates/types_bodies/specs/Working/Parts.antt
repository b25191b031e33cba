-- The results of loops so far, if nothing in them is missing.
use Rattle.std.specs.Prelude.{List, [], ◌∷◌, ◌++◌, Option, Some, None, option_map}
use Rattle.std.proofs.Common.{Vec, Global}
use Rattle.core_lang.specs.declared.tree.Operator.{Operator}
use Rattle.core_lang.specs.declared.tree.Operation as the_operation
use Rattle.core_lang.specs.declared.tree.Expr as the_expr
use Rattle.core_lang.specs.declared.tree.Condition as the_condition
use Rattle.types_bodies.specs.declared.resolved_expr.Tests.{Tests}

abbrev pub items_of : {A : Type 0} → Option (Vec A Global) → Option (List A)
items_of v = option_map (λ xs. xs.items) v

-- the list with one more item, if neither is missing
abbrev pub pushed : {A : Type 0} → Option (List A) → Option A → Option (List A)
pushed (Some xs) (Some x) = Some (xs ++ x ∷ [])
pushed (Some xs) None = None
pushed None x = None

abbrev pub operation_with : Option Operator → Option the_expr.Expr → Option the_operation.Operation
operation_with (Some o) (Some x) = Some (record { operator = o; operand = x })
operation_with (Some o) None = None
operation_with None x = None

-- the conditions so far, with the last one apart
pub record SoFar : Type 0 where
  pub before : List the_condition.Condition
  pub last : the_condition.Condition

abbrev pub so_far : Tests → SoFar
so_far t = record { before = t.before.items; last = t.last }

abbrev pub first_test : Option the_condition.Condition → Option SoFar
first_test (Some c) = Some (record { before = []; last = c })
first_test None = None

abbrev pub tests_with : Option SoFar → Option the_condition.Condition → Option SoFar
tests_with (Some t) (Some c) = Some (record { before = t.before ++ t.last ∷ []; last = c })
tests_with (Some t) None = None
tests_with None c = None
