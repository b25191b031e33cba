use Rattle.locks.specs.Theory.Written.{piece_added}
use Rattle.std.specs.Prelude.{codes, string_bytes}
use Rattle.c_data.specs.Theory.Steps.{after, both}
use Rattle.c_data.proofs.writer.DataWriter.push_open.Goals as goal

pub returns : goal.returns
returns c =
    let old = string_bytes c.args.out.now in
    let t2 = both old _ _ _ _ c.in_ok-write.ensures.bytes c.in_ok-push_zeros.ensures in
    let t3 = both old _ _ _ _ t2 c.in_ok-push_values.ensures in
    let last = piece_added c.push_str.result _ (string_bytes c.push_values.new.out) (codes "  s->history = NULL;\n  (void)i;\n}\n") c.push_str.ensures.bytes in
    after _ old _ _ _ _ t3 last
