use Rattle.std.proofs.Common.{◌∙◌, ◌++◌, ap, append_assoc, string_bytes, subst}
use Rattle.std.proofs.lemmas.Result.{on_ok_weaker}
use Rattle.code.specs.Listing.{instr_text}
use Rattle.code.specs.Working.Naming.{AddsBare}
use Rattle.code.specs.Working.Places.{table_text}
use Rattle.code.specs.Working.Asked.{lists_of}
use Rattle.report_runs.specs.Working.Instructions.{begins_of}
use Rattle.report_runs.proofs.instructions.SectionTeller.push_instr.Goals as goal

pub returns : goal.returns
returns c =
    let x = c.args.self.now in
    let bare = subst (λ p. AddsBare p c.args.place c.args.instr c.push.new.out c.push_instr.new.out) c.requires.names
    c.in_ok-push_instr.ensures in
    let front = table_text x.places.now (begins_of x) c.args.place in
    let text = instr_text x.program.now x.listed.section.now (lists_of x.listed) c.args.place c.args.instr in
    on_ok_weaker c.push_asked.result
    (λ e. e ∙ bare x.listed.section.now (lists_of x.listed) ∙ ap (λ t. t ++ text) c.in_ok-push.ensures
    ∙ append_assoc (string_bytes c.args.out.now) front text)
    c.push_asked.ensures
