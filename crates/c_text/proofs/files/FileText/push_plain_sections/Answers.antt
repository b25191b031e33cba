use Rattle.std.proofs.Common.{◌∙◌, arith}
use Rattle.c_text.specs.Files.{section_of}
use Rattle.c_text.proofs.Sections.{numbered_on}
use Rattle.c_text.proofs.files.FileText.push_plain_sections.Goals as goal

pub loop-number-preserved : goal.loop-number-preserved
loop-number-preserved c =
    let plan = c.args.self.now.program.now in
    numbered_on (section_of c.args.self.now.prefix.now plan.program plan.lists) plan.program c.loop-number.number
    (omega (arith, c.loop-number-test.true, c.count-number-end.ensures)) _ _ c.in_ok-push_section.ensures ∙ c.loop-number.invariant
