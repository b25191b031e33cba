-- Resolved expressions and their parts, as values of this crate stand for them.
use Rattle.std.specs.Prelude.{List, Option, Some, None, option_map}
use Rattle.std.proofs.Common.{Vec, Global}
use Rattle.syntax.specs.declared.tree.Level.{Level}
use Rattle.syntax.specs.declared.tree.Level.TheVariants.{Term, Sum, Conjunction, Disjunction}
use Rattle.core_lang.specs.declared.tree.Operation as the_operation
use Rattle.core_lang.specs.declared.tree.Condition as the_condition
use Rattle.resolution.specs.Core as core
use Rattle.resolution.specs.CoreViews.{core_expr, core_operations, core_condition, core_conditions}
use Rattle.resolution.specs.Expressions.{ResolvedExpr, value, truth}
use Rattle.resolution.specs.Working.TypedExpressions.{Tests, all_hold, one_holds}
use Rattle.types_bodies.specs.declared.resolved_expr.ResolvedExpr as s
use Rattle.types_bodies.specs.declared.resolved_expr.ResolvedExpr.TheVariants as v
use Rattle.types_bodies.specs.declared.resolved_expr.Side as the_side
use Rattle.types_bodies.specs.declared.resolved_expr.Tests as the_tests

abbrev pub resolved_expr_of : s.ResolvedExpr → ResolvedExpr
resolved_expr_of (v.Value e sort) = value (core_expr e) sort
resolved_expr_of (v.Truth c) = truth (core_condition c)

-- the further operands of a chain of numbers
abbrev pub operations_of : Option (Vec the_operation.Operation Global) → Option core.Operations
operations_of v = option_map (λ os. core_operations os.items) v

-- the operands of `&&` or `||`, with the last one apart
abbrev pub tests_seen : List the_condition.Condition → the_condition.Condition → Tests
tests_seen before last = record { before = core_conditions before; last = core_condition last }

abbrev pub tests_of : the_tests.Tests → Tests
tests_of t = tests_seen t.before.items t.last

-- the resolved form of a side of a comparison
abbrev pub seen : the_side.Side → Option ResolvedExpr
seen x = option_map resolved_expr_of x.value

-- the resolved form of a chain of conditions
abbrev pub holds : Level → Option Tests → Option ResolvedExpr
holds level None = None
holds Term (Some ts) = None
holds Sum (Some ts) = None
holds Conjunction (Some ts) = all_hold (Some ts)
holds Disjunction (Some ts) = one_holds (Some ts)
