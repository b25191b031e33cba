use Rattle.std.specs.Prelude.{string_bytes}
use Rattle.c_data.specs.Theory.Steps.{after, both}
use Rattle.c_text.specs.Histories.{numbers_text}
use Rattle.c_text.proofs.writer.FileWriter.push_numbers_of_sections.Goals as goal

pub returns : goal.returns
unfolding numbers_text
returns c =
    let old = string_bytes c.args.out.now in
    let t2 = both old _ _ _ _ c.in_ok-push_str.ensures.bytes c.in_ok-push_section_numbers.ensures in
    after _ old _ _ _ _ t2 c.write.ensures.bytes
