use Rattle.locks.specs.Theory.Written.{piece_added}
use Rattle.std.specs.Prelude.{codes, string_bytes}
use Rattle.c_data.specs.Theory.Steps.{after, both}
use Rattle.c_text.specs.Mains.{script_text}
use Rattle.c_text.proofs.writer.FileWriter.push_script.Goals as goal

pub returns : goal.returns
unfolding script_text
returns c =
    let old = string_bytes c.args.out.now in
    let t2 = both old _ _ _ _ c.in_ok-write.ensures.bytes c.in_ok-push_calls.ensures in
    let last = piece_added c.push_str.result _ (string_bytes c.push_calls.new.out) (codes "  { -1, { 0 } }\n};\n") c.push_str.ensures.bytes in
    after _ old _ _ _ _ t2 last
