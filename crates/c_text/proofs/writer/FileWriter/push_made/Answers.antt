use Rattle.locks.specs.Theory.Written.{piece_added}
use Rattle.std.specs.Prelude.{codes, string_bytes}
use Rattle.c_data.specs.Theory.Steps.{after, both}
use Rattle.c_text.specs.Mains.{made_text}
use Rattle.c_text.proofs.writer.FileWriter.push_made.Goals as goal

pub returns : goal.returns
unfolding made_text
returns c =
    let old = string_bytes c.args.out.now in
    let t2 = both old _ _ _ _ c.in_ok-push_prints_declared.ensures c.in_ok-push_str.ensures.bytes in
    let t3 = both old _ _ _ _ t2 c.in_ok-push_result_struct.ensures in
    let t4 = both old _ _ _ _ t3 c.in_ok-write.ensures.bytes in
    let t5 = both old _ _ _ _ t4 c.in_ok-push_all_passed.ensures in
    let t6 = both old _ _ _ _ t5 c.in_ok-push_prints_passed.ensures in
    let last = piece_added c.push_str-2.result _ (string_bytes c.push_prints_passed.new.out) (codes ");\n") c.push_str-2.ensures.bytes in
    after _ old _ _ _ _ t6 last
