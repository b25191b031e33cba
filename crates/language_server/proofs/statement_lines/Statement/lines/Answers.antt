use Rattle.std.proofs.Common.{◌<◌, length, subst, arith}
use Rattle.core_lang.specs.declared.typed.Typed.{Typed}
use Rattle.language_server.specs.Working.Lines.{held_in, told_lines, lines_of_statement}
use Rattle.language_server.proofs.Telling.{whole}
use Rattle.language_server.proofs.statement_lines.Statement.lines.Goals as goal

pub loop-number-preserved : goal.loop-number-preserved
loop-number-preserved c =
    let x = c.args.self.now in
    let plan = x.program.now in
    let within : c.loop-number.number < length plan.program.sections.items =
    subst (λ (t : Typed). c.loop-number.number < length t.sections.items) c.expanded.ensures.program
    (omega (arith, c.loop-number-test.true, c.len-number-end.ensures, c.expanded.result.now.sections.ok.0)) in
    whole plan (held_in x.held.now) x.start c.loop-number.number (told_lines c.loop-number.found) (told_lines c.add_section.new.found)
    (lines_of_statement x) within c.in_ok-add_section.ensures c.loop-number.invariant
