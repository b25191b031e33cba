use Rattle.std.specs.Prelude.{string_bytes}
use Rattle.c_data.specs.Theory.Steps.{after, both}
use Rattle.c_text.specs.Mains.{told_text}
use Rattle.c_text.proofs.writer.FileWriter.push_told.Goals as goal

pub returns : goal.returns
unfolding told_text
returns c =
    let old = string_bytes c.args.out.now in
    let t2 = both old _ _ _ _ c.in_ok-write.ensures.bytes c.in_ok-push_all_words.ensures in
    let t3 = both old _ _ _ _ t2 c.in_ok-push_str.ensures.bytes in
    let t4 = both old _ _ _ _ t3 c.in_ok-push_result_word.ensures in
    let t5 = both old _ _ _ _ t4 c.in_ok-push_str-2.ensures.bytes in
    after _ old _ _ _ _ t5 c.push_prints_written.ensures
