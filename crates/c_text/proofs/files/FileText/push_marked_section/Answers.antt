use Rattle.std.proofs.Common.{◌∙◌, ◌++◌, List, ℕ, ap, string_bytes}
use Rattle.std.proofs.lemmas.Result.{on_ok_weaker}
use Rattle.code.specs.Lowering.{lists_at}
use Rattle.code.specs.Theory.LineTables.{table_rises}
use Rattle.c_text.specs.Working.Sections.{file_in}
use Rattle.c_text.proofs.Sections.{marked_is}
use Rattle.c_text.proofs.files.FileText.push_marked_section.Goals as goal

pub push_section-requires-clause-rises : goal.push_section-requires-clause-rises
push_section-requires-clause-rises c =
    let listed = c.listed-listed.result in
    table_rises (lists_at c.args.self.now.program.now.lists c.args.number) listed.section.now listed.code.now.begins.items
    c.listed-listed.ensures.begins

pub returns-clause-text : goal.returns-clause-text
returns-clause-text c =
    let plan = c.args.self.now.program.now in
    let names = c.writer.result.names in
    let same = marked_is plan.program plan.lists c.args.number c.listed-listed.result c.listed-listed.ensures c.args.self.now.prefix.now
    names.prefix.now names.program.now c.writer.ensures.prefix c.writer.ensures.program (file_in c.args.marker.now)
    c.in_ok-places.places c.in_ok-places.ensures.made in
    on_ok_weaker c.push_section.result (λ e. e ∙ ap (λ (t : List ℕ). string_bytes c.args.out.now ++ t) same) c.push_section.ensures
