use Rattle.locks.specs.Theory.Written.{piece_added}
use Rattle.std.specs.Prelude.{codes, string_bytes}
use Rattle.c_data.specs.Theory.Steps.{after, both}
use Rattle.c_data.proofs.writer.DataWriter.push_state.Goals as goal

pub returns : goal.returns
returns c =
    let old = string_bytes c.args.out.now in
    let t2 = both old _ _ _ _ c.in_ok-write.ensures.bytes c.in_ok-push_state_members.ensures in
    let last = piece_added c.push_str.result _ (string_bytes c.push_state_members.new.out) (codes "  struct autolock_history *history;\n};\n") c.push_str.ensures.bytes in
    after _ old _ _ _ _ t2 last
