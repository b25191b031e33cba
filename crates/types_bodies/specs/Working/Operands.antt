-- Operands with operators between them, given the first one and what follows it.
use Rattle.std.specs.Prelude.{List, ◌++◌, Option, option_map}
use Rattle.syntax.specs.declared.tree.Operator.{Operator}
use Rattle.syntax.specs.declared.tree.Level.{Level}
use Rattle.syntax.specs.declared.tree.Comparison.{Comparison}
use Rattle.syntax.specs.Trees.{Expr, Links, no_links, link}
use Rattle.syntax.specs.Grammar.{level_of}
use Rattle.resolution.specs.declared.finding.Finding.{Finding}
use Rattle.core_lang.specs.declared.tree.Expr as the_expr
use Rattle.core_lang.specs.declared.tree.Condition as the_condition
use Rattle.resolution.specs.CoreViews.{core_expr, core_condition}
use Rattle.resolution.specs.Scopes.{Scope}
use Rattle.resolution.specs.Expressions.{ResolvedExpr}
use Rattle.resolution.specs.Working.TypedExpressions.{Tests, typed, typed_links, typed_tests, chained}
use Rattle.resolution.specs.Faults.{start_of}
use Rattle.resolution.specs.Where.{side_want}
use Rattle.resolution.specs.Working.FaultLists.{link_faults, side_faults, wanted_faults}
use Rattle.types_bodies.specs.Working.ResolvedExprs.{seen, holds}
use Rattle.types_bodies.specs.declared.resolved_expr.Side as the_side

-- one operator, and the operand after it
abbrev pub one_link : Operator → Expr → Links
one_link op e = link op e no_links

-- a chain of numbers, from its first operand and what follows it
abbrev pub chain_from : Scope → Option the_expr.Expr → Links → Option ResolvedExpr
chain_from sc first links = chained (option_map core_expr first) (typed_links sc links)

-- the operands of a chain of conditions, from the first one and what follows it
abbrev pub tests_from : Scope → Option the_condition.Condition → Links → Option Tests
tests_from sc first links = typed_tests sc (option_map core_condition first) links

-- two conditions with an operator between them
abbrev pub both_tests : Scope → Option the_condition.Condition → Operator → Expr → Option ResolvedExpr
both_tests sc first op e = holds (level_of op) (tests_from sc first (one_link op e))

-- the faults of a second operand
abbrev pub second_faults : Scope → Level → Operator → Expr → List Finding
second_faults sc level op e = link_faults sc level (one_link op e)

-- the faults of the right side of a comparison, and of both sides together
abbrev pub right_faults : Scope → Comparison → the_side.Side → Expr → List Finding
right_faults sc c left e = wanted_faults sc (side_want c) e ++ side_faults c left.start (start_of e) (seen left) (typed sc e)
