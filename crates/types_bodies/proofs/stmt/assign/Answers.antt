use Rattle.std.proofs.Common.{ap, sym, ◌∙◌}
use Rattle.std.specs.Prelude.{option_map}
use Rattle.resolution.specs.CoreViews.{core_expr}
use Rattle.resolution.specs.Working.TypedStatements.{acts, assigns, set_to}
use Rattle.types_bodies.specs.Working.Targets.{assignee_of, target_seen}
use Rattle.types_bodies.specs.declared.target.Target.{Target}
use Rattle.types_bodies.specs.Theory.Zips.{zipped}
use Rattle.types_bodies.proofs.stmt.assign.Goals as goal

pub returns-in-Local : goal.returns-in-Local
returns-in-Local c =
    c.act.ensures
    ∙ ap (λ (t : Target). acts c.args.start (set_to (target_seen t) (core_expr c.in-Some.value))) (sym c.in-Local.is)
    ∙ zipped (λ a v. assigns c.args.start (option_map assignee_of a) (option_map core_expr v)) c.args.assignee c.args.value c.in-Some.assignee c.in-Some.value c.in-Some.ensures

pub returns-in-Global : goal.returns-in-Global
returns-in-Global c =
    c.act-in-Global.ensures
    ∙ ap (λ (t : Target). acts c.args.start (set_to (target_seen t) (core_expr c.in-Some.value))) (sym c.in-Global.is)
    ∙ zipped (λ a v. assigns c.args.start (option_map assignee_of a) (option_map core_expr v)) c.args.assignee c.args.value c.in-Some.assignee c.in-Some.value c.in-Some.ensures
