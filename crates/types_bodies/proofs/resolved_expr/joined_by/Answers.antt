use Rattle.std.proofs.Common.{Some, ap, sym, ◌∙◌}
use Rattle.resolution.specs.Expressions.{truth}
use Rattle.types_bodies.specs.Working.ResolvedExprs.{holds, tests_seen}
use Rattle.types_bodies.proofs.CoreRows.{core_and_view, core_or_view}
use Rattle.types_bodies.proofs.resolved_expr.joined_by.Goals as goal

pub returns-in-Conjunction : goal.returns-in-Conjunction
returns-in-Conjunction c =
    ap (λ k. Some (truth k)) (core_and_view c.args.before c.args.last)
    ∙ ap (λ k. holds k (Some (tests_seen c.args.before.items c.args.last.value))) (sym c.in-Conjunction.is)

pub returns-in-Disjunction : goal.returns-in-Disjunction
returns-in-Disjunction c =
    ap (λ k. Some (truth k)) (core_or_view c.args.before c.args.last)
    ∙ ap (λ k. holds k (Some (tests_seen c.args.before.items c.args.last.value))) (sym c.in-Disjunction.is)
