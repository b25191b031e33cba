use Rattle.locks.specs.Theory.Written.{piece_added}
use Rattle.std.specs.Prelude.{codes, string_bytes}
use Rattle.c_data.specs.Theory.Steps.{after, both}
use Rattle.c_text.specs.Histories.{writer_text}
use Rattle.c_text.proofs.writer.FileWriter.push_writer.Goals as goal

pub returns : goal.returns
unfolding writer_text
returns c =
    let old = string_bytes c.args.out.now in
    let t2 = both old _ _ _ _ c.in_ok-write.ensures.bytes c.in_ok-push_struct.ensures in
    let t3 = both old _ _ _ _ t2 c.in_ok-write-2.ensures.bytes in
    let t4 = both old _ _ _ _ t3 c.in_ok-push_struct-2.ensures in
    let last = piece_added c.push_str.result _ (string_bytes c.push_struct-2.new.out) (codes " *)(uintptr_t)") c.push_str.ensures.bytes in
    after _ old _ _ _ _ t4 last
