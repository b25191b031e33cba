use Rattle.locks.specs.Theory.Written.{piece_added}
use Rattle.std.specs.Prelude.{codes, string_bytes}
use Rattle.c_data.specs.Theory.Steps.{after, both}
use Rattle.c_text.specs.Mains.{scripts_text}
use Rattle.c_text.proofs.writer.FileWriter.push_scripts.Goals as goal

pub returns : goal.returns
unfolding scripts_text
returns c =
    let old = string_bytes c.args.out.now in
    let t2 = both old _ _ _ _ c.in_ok-push_all_scripts.ensures c.in_ok-write.ensures.bytes in
    let t3 = both old _ _ _ _ t2 c.in_ok-push_script_names.ensures in
    let last = piece_added c.push_str.result _ (string_bytes c.push_script_names.new.out) (codes "  NULL\n};\n") c.push_str.ensures.bytes in
    after _ old _ _ _ _ t3 last
