use Rattle.std.proofs.Common.{◌∙◌, ◌++◌, ap, string_bytes, arith}
use Rattle.c_text.specs.Files.{Source, marked_of, file_of}
use Rattle.c_text.specs.Working.Sections.{at_number}
use Rattle.c_text.proofs.Sections.{numbered_on}
use Rattle.c_text.proofs.files.FileText.push_marked_sections.Goals as goal

pub loop-number-preserved : goal.loop-number-preserved
loop-number-preserved c =
    let x = c.args.self.now in
    let plan = x.program.now in
    let text = λ (source : Source). marked_of x.prefix.now plan.program plan.lists source in
    let added = c.in_ok-push_marked_section.ensures.text
    ∙ ap (λ (source : Source). string_bytes c.loop-number.out ++ at_number (text source) plan.program c.loop-number.number)
    c.loop-number.invariant.file in
    record {
      file = c.push_marked_section.ensures.same ∙ c.loop-number.invariant.file;
      text = numbered_on (text (file_of c.args.source)) plan.program c.loop-number.number
          (omega (arith, c.loop-number-test.true, c.count-number-end.ensures)) _ _ added ∙ c.loop-number.invariant.text;
    }
