use Rattle.locks.specs.Theory.Written.{piece_added}
use Rattle.std.specs.Prelude.{codes, string_bytes}
use Rattle.c_data.specs.Theory.Steps.{after, both}
use Rattle.c_text.specs.Histories.{tell_start}
use Rattle.c_text.proofs.writer.FileWriter.push_tell_start.Goals as goal

pub returns : goal.returns
unfolding tell_start
returns c =
    let old = string_bytes c.args.out.now in
    let t2 = both old _ _ _ _ c.in_ok-write.ensures.bytes c.in_ok-push_state_pointer.ensures in
    let t3 = both old _ _ _ _ t2 c.in_ok-push_str.ensures.bytes in
    let last = piece_added c.push_str-2.result _ (string_bytes c.push_str.new.self) (codes "  (void)f;\n  (void)s;\n  (void)a;\n  (void)trap;\n  (void)value;\n  switch (section) {\n") c.push_str-2.ensures.bytes in
    after _ old _ _ _ _ t3 last
