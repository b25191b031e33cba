use Rattle.locks.specs.Theory.Written.{piece_added}
use Rattle.std.specs.Prelude.{codes, string_bytes}
use Rattle.c_data.specs.Theory.Steps.{after, both}
use Rattle.c_text.specs.Histories.{shown_text}
use Rattle.c_text.proofs.writer.FileWriter.push_shown.Goals as goal

pub returns : goal.returns
unfolding shown_text
returns c =
    let old = string_bytes c.args.out.now in
    let t2 = both old _ _ _ _ c.in_ok-push_str.ensures.bytes c.in_ok-push_objects.ensures in
    let t3 = both old _ _ _ _ t2 c.in_ok-push_tells.ensures in
    let t4 = both old _ _ _ _ t3 c.in_ok-push_cells.ensures in
    let last = piece_added c.push_str-2.result _ (string_bytes c.push_cells.new.out) (codes "#endif\n") c.push_str-2.ensures.bytes in
    after _ old _ _ _ _ t4 last
