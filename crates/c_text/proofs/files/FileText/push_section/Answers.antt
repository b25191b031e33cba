use Rattle.std.proofs.Common.{◌∙◌, ◌++◌, List, ℕ, ap, string_bytes}
use Rattle.std.proofs.lemmas.Result.{on_ok_weaker}
use Rattle.code.specs.Lowering.{lists_at}
use Rattle.code.specs.Theory.LineTables.{table_rises}
use Rattle.c_text.proofs.Sections.{section_is}
use Rattle.c_text.proofs.files.FileText.push_section.Goals as goal

pub push_section-requires-clause-rises : goal.push_section-requires-clause-rises
push_section-requires-clause-rises c =
    let listed = c.listed.result in
    table_rises (lists_at c.args.self.now.program.now.lists c.args.number) listed.section.now listed.code.now.begins.items c.listed.ensures.begins

pub returns : goal.returns
returns c =
    let plan = c.args.self.now.program.now in
    let names = c.writer.result.names in
    let same = section_is plan.program plan.lists c.args.number c.listed.result c.listed.ensures c.args.self.now.prefix.now
    names.prefix.now names.program.now c.writer.ensures.prefix c.writer.ensures.program in
    on_ok_weaker c.push_section.result (λ e. e ∙ ap (λ (t : List ℕ). string_bytes c.args.out.now ++ t) same) c.push_section.ensures
