use Rattle.std.proofs.Common.{◌∙◌, ◌++◌, ap}
use Rattle.std.proofs.lemmas.Result.{on_ok_weaker}
use Rattle.rope.specs.Working.Ropes.{rope_text}
use Rattle.code.specs.Theory.Written.{asked_paths}
use Rattle.code.specs.Working.Asked.{lists_of}
use Rattle.code.specs.Working.Sections.{paths_text_of}
use Rattle.code.proofs.lines.SectionLines.push_asked.Goals as goal

pub returns : goal.returns
returns c =
    let x = c.args.self.now in
    let whole = ap (paths_text_of x) c.asked.ensures ∙ asked_paths x.lister.now.program.now x.listed.section.now (lists_of x.listed) c.args.instr in
    on_ok_weaker c.push_paths.result (λ e. (e.0 ∙ ap (λ t. rope_text c.args.out.now ++ t) whole, e.1)) c.push_paths.ensures
