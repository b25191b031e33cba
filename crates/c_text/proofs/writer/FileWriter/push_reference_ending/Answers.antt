use Rattle.locks.specs.Theory.Written.{piece_added}
use Rattle.std.specs.Prelude.{codes, string_bytes}
use Rattle.c_data.specs.Theory.Steps.{after, both}
use Rattle.c_text.specs.Histories.{reference_ending}
use Rattle.c_text.proofs.writer.FileWriter.push_reference_ending.Goals as goal

pub returns : goal.returns
unfolding reference_ending
returns c =
    let old = string_bytes c.args.out.now in
    let t2 = both old _ _ _ _ c.in_ok-push_str.ensures.bytes c.in_ok-push_writer.ensures in
    let last = piece_added c.push_str-2.result _ (string_bytes c.push_writer.new.out) (codes "value);\n      fputs(\"\\n\", f);\n    }\n") c.push_str-2.ensures.bytes in
    after _ old _ _ _ _ t2 last
