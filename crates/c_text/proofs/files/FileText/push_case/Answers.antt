use Rattle.std.proofs.Common.{◌∙◌, ◌++◌, List, ℕ, ap, string_bytes}
use Rattle.std.proofs.lemmas.Result.{on_ok_weaker}
use Rattle.c_sections.specs.Instructions.{prints}
use Rattle.c_text.proofs.Sections.{case_is}
use Rattle.c_text.proofs.files.FileText.push_case.Goals as goal

pub returns : goal.returns
returns c =
    let plan = c.args.self.now.program.now in
    let names = c.writer.result.names in
    let printed = c.prints-printing.ensures ∙ ap prints c.deref.ensures.value in
    let same = case_is plan.program plan.lists c.args.number c.listed-listed.result c.listed-listed.ensures c.args.self.now.prefix.now
    names.prefix.now names.program.now c.writer.ensures.prefix c.writer.ensures.program c.prints-printing.result printed in
    on_ok_weaker c.push_case.result (λ e. e ∙ ap (λ (t : List ℕ). string_bytes c.args.out.now ++ t) same) c.push_case.ensures
