use Rattle.std.proofs.Common.{◌∙◌, arith}
use Rattle.c_text.specs.Files.{case_of}
use Rattle.c_text.proofs.Sections.{numbered_on}
use Rattle.c_text.proofs.files.FileText.push_cases.Goals as goal

pub loop-number-preserved : goal.loop-number-preserved
loop-number-preserved c =
    let plan = c.args.self.now.program.now in
    numbered_on (case_of c.args.self.now.prefix.now plan.program plan.lists) plan.program c.loop-number.number
    (omega (arith, c.loop-number-test.true, c.count-number-end.ensures)) _ _ c.in_ok-push_case.ensures ∙ c.loop-number.invariant
