use Rattle.locks.specs.Theory.Written.{piece_added}
use Rattle.std.specs.Prelude.{codes, string_bytes}
use Rattle.c_data.specs.Theory.Steps.{after, both}
use Rattle.c_data.specs.Cells.{cells_text}
use Rattle.c_data.proofs.writer.DataWriter.push_cells.Goals as goal

pub returns : goal.returns
unfolding cells_text
returns c =
    let old = string_bytes c.args.out.now in
    let cells = both old _ _ _ _ c.in_ok-push_cells_head.ensures c.in_ok-push_all_cells.ensures in
    let last = piece_added c.push_str.result _ (string_bytes c.push_all_cells.new.out) (codes "  fputs(\"end\\n\", f);\n}\n") c.push_str.ensures.bytes in
    after _ old _ _ _ _ cells last
