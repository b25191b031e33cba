use Rattle.std.proofs.Common.{Some, ap, sym, ◌∙◌}
use Rattle.std.specs.Prelude.{option_map}
use Rattle.core_lang.specs.declared.tree.Condition.{Condition}
use Rattle.types_bodies.specs.Working.ResolvedExprs.{holds, tests_of, tests_seen}
use Rattle.types_bodies.proofs.resolved_expr.tested.Goals as goal

pub returns-in-Ok : goal.returns-in-Ok
returns-in-Ok c =
    c.joined_by.ensures
    ∙ ap (λ (k : Condition). holds c.args.level (Some (tests_seen c.in-Some.tests.before.items k))) c.in-Ok.ensures.ok
    ∙ sym (ap (λ ts. holds c.args.level (option_map tests_of ts)) c.in-Some.is)
