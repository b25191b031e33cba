use Rattle.std.proofs.Common.{◌<◌, length, subst, arith}
use Rattle.core_lang.specs.declared.typed.Typed.{Typed}
use Rattle.language_server.specs.Takes.{in_order, takes_of}
use Rattle.language_server.specs.Working.Sets.{told_in}
use Rattle.language_server.proofs.Taking.{whole}
use Rattle.language_server.proofs.takes.takes.Goals as goal

pub loop-number-preserved : goal.loop-number-preserved
loop-number-preserved c =
    let plan = c.args.program.now in
    let within : c.loop-number.number < length plan.program.sections.items =
    subst (λ (t : Typed). c.loop-number.number < length t.sections.items) c.expanded.ensures.program
    (omega (arith, c.loop-number-test.true, c.len-number-end.ensures, c.expanded.result.now.sections.ok.0)) in
    whole plan c.loop-number.number (told_in c.loop-number.found) (told_in c.add_section.new.found) (in_order (takes_of plan)) within
    c.in_ok-add_section.ensures c.loop-number.invariant
