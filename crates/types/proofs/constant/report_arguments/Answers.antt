use Rattle.std.proofs.Common.{◌≤◌, sym, ap, ◌∙◌, arith, length}
use Rattle.std.proofs.lemmas.Grind.{common_steps}
use Rattle.std.specs.Prelude.{min}
use Rattle.resolution.specs.Working.Findings.{found_in}
use Rattle.types_symbols.specs.Working.Views.{decls_of}
use Rattle.types.proofs.Arguments.{arguments_end}
use Rattle.types.proofs.constant.report_arguments.Goals as goal

pub returns : goal.returns
returns c =
    let le : min (length c.args.params.now) (length c.args.constants.now) ≤ c.loop-i.i = grind (arith, common_steps) in
    sym (ap (found_in c.loop-i.firsts) (arguments_end (decls_of c.args.symbols.now) c.args.params.now c.args.constants.now c.loop-i.i le)) ∙ c.loop-i.invariant.faults
