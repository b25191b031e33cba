use Rattle.std.proofs.Common.{◌∙◌, ◌++◌, List, ℕ, ap, string_bytes}
use Rattle.std.specs.Prelude.{codes}
use Rattle.std.proofs.lemmas.Result.{on_ok_weaker}
use Rattle.locks.specs.Theory.Written.{piece_added}
use Rattle.c_sections.specs.Instructions.{prints}
use Rattle.c_text.proofs.Sections.{prototype_is}
use Rattle.c_data.specs.Theory.Steps.{after}
use Rattle.c_text.proofs.files.FileText.push_prototype.Goals as goal

pub returns : goal.returns
returns c =
    let plan = c.args.self.now.program.now in
    let names = c.writer.result.names in
    let old = string_bytes c.args.out.now in
    let printed = c.prints-printing.ensures ∙ ap prints c.deref.ensures.value in
    let same = prototype_is plan.program plan.lists c.args.number c.listed-listed.result c.listed-listed.ensures c.args.self.now.prefix.now
    names.prefix.now names.program.now c.writer.ensures.prefix c.writer.ensures.program c.prints-printing.result printed in
    let last = piece_added c.push_str.result _ (string_bytes c.push_prototype.new.out) (codes ";\n") c.push_str.ensures.bytes in
    on_ok_weaker c.push_str.result (λ e. e ∙ ap (λ (t : List ℕ). old ++ t) same)
    (after _ old _ _ _ _ c.in_ok-push_prototype.ensures last)
