use Rattle.std.proofs.Common.{◌∙◌, ◌++◌, ap, string_bytes}
use Rattle.std.proofs.lemmas.Result.{on_ok_weaker}
use Rattle.code.specs.Theory.Written.{asked_paths}
use Rattle.code.specs.Working.Asked.{lists_of}
use Rattle.report_runs.specs.Working.Instructions.{paths_told}
use Rattle.report_runs.proofs.instructions.SectionTeller.push_asked.Goals as goal

pub returns : goal.returns
returns c =
    let x = c.args.self.now in
    let whole = ap (paths_told x) c.asked.ensures ∙ asked_paths x.program.now x.listed.section.now (lists_of x.listed) c.args.instr in
    on_ok_weaker c.push_paths.result (λ e. e ∙ ap (λ t. string_bytes c.args.out.now ++ t) whole) c.push_paths.ensures
