use Rattle.locks.specs.Theory.Written.{piece_added}
use Rattle.std.specs.Prelude.{codes, string_bytes}
use Rattle.c_data.specs.Theory.Steps.{after, both}
use Rattle.c_text.specs.Mains.{word_next}
use Rattle.c_text.proofs.writer.FileWriter.push_word_next.Goals as goal

pub returns : goal.returns
unfolding word_next
returns c =
    let old = string_bytes c.args.out.now in
    let t2 = both old _ _ _ _ c.in_ok-push_cast.ensures c.in_ok-push_passed.ensures in
    let last = piece_added c.push_str.result _ (string_bytes c.push_passed.new.out) (codes ", ") c.push_str.ensures.bytes in
    after _ old _ _ _ _ t2 last
