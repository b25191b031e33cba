use Rattle.std.proofs.Common.{ap, ◌∙◌}
use Rattle.syntax.specs.Views.{ident, expr_of, type_of as type_seen}
use Rattle.resolution.specs.Scopes.{type_of}
use Rattle.resolution.specs.Expressions.{want}
use Rattle.resolution.specs.Working.Findings.{found_in}
use Rattle.resolution.specs.Working.FaultLists.{local_faults, type_faults, wanted_faults}
use Rattle.types_bodies.specs.Working.Checkers.{scope}
use Rattle.types_symbols.specs.Theory.Steps.{noted_two}
use Rattle.types_bodies.proofs.stmt.first_value.Goals as goal

pub returns-clause-faults : goal.returns-clause-faults
returns-clause-faults c =
    let sc = scope c.args.checker.now in
    let l = c.args.local.now in
    let t = type_seen l.value_type in
    let e = expr_of l.value in
    c.in_ok-value.ensures.faults ∙ ap (λ w. found_in c.local_type-value_type.new.firsts (wanted_faults sc w e)) (c.want.ensures ∙ ap want c.local_type-value_type.ensures.value)
    ∙ noted_two c.args.firsts.now c.report_name.new.firsts c.local_type-value_type.new.firsts (local_faults sc (ident l.name)) (type_faults sc t) (wanted_faults sc (want (type_of sc t)) e) c.report_name.ensures c.local_type-value_type.ensures.faults
