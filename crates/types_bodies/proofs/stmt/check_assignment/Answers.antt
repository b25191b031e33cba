use Rattle.std.proofs.Common.{ap, ◌∙◌}
use Rattle.std.specs.Prelude.{option_map}
use Rattle.syntax.specs.Trees.{Ident}
use Rattle.syntax.specs.Views.{expr_of, place_of}
use Rattle.resolution.specs.Working.TypedExpressions.{as_value, fitting, typed}
use Rattle.resolution.specs.CoreViews.{core_expr}
use Rattle.resolution.specs.Working.TypedStatements.{assigns, target_of, wanted_by}
use Rattle.resolution.specs.Statements.{first_name}
use Rattle.resolution.specs.Working.Findings.{found_in}
use Rattle.resolution.specs.Working.FaultLists.{target_faults, wanted_faults}
use Rattle.types_bodies.specs.Working.Checkers.{scope}
use Rattle.types_bodies.specs.Working.Targets.{assignee_of}
use Rattle.types_symbols.specs.Theory.Steps.{noted_one}
use Rattle.types_bodies.proofs.stmt.check_assignment.Goals as goal

pub returns-clause-faults : goal.returns-clause-faults
returns-clause-faults c =
    let sc = scope c.args.checker.now in
    let p = place_of c.args.p.now in
    let e = expr_of c.args.e.now in
    let g = c.check_target.new.firsts in
    c.in-Ok.ensures.faults ∙ ap (λ w. found_in g (wanted_faults sc w e)) (c.wanted_by.ensures ∙ ap wanted_by c.in_ok-assignee.ensures.value)
    ∙ noted_one c.args.firsts.now g (target_faults sc p) (wanted_faults sc (wanted_by (target_of sc p)) e) c.in_ok-assignee.ensures.faults

pub returns-clause-value : goal.returns-clause-value
returns-clause-value c =
    let sc = scope c.args.checker.now in
    let p = place_of c.args.p.now in
    let start = (first_name p).span.start in
    let value = option_map core_expr c.in-Ok.value in
    c.assign.ensures
    ∙ ap (λ (x : Ident). assigns x.span.start (option_map assignee_of c.in_ok-assignee.assignee) value) c.first_name.ensures
    ∙ ap (λ a. assigns start a value) c.in_ok-assignee.ensures.value
    ∙ ap (assigns start (target_of sc p))
    (c.in-Ok.ensures.value ∙ ap (λ w. as_value (fitting w (typed sc (expr_of c.args.e.now)))) (c.wanted_by.ensures ∙ ap wanted_by c.in_ok-assignee.ensures.value))
