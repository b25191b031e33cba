use Rattle.locks.specs.Theory.Written.{piece_added}
use Rattle.std.specs.Prelude.{codes, string_bytes}
use Rattle.c_data.specs.Theory.Steps.{after, both}
use Rattle.c_text.specs.Mains.{call_text}
use Rattle.c_text.proofs.mains.push_call.Goals as goal

pub returns : goal.returns
unfolding call_text
returns c =
    let old = string_bytes c.args.out.now in
    let t2 = both old _ _ _ _ c.in_ok-write.ensures.bytes c.in_ok-push_arguments_of.ensures in
    let last = piece_added c.push_str.result _ (string_bytes c.push_arguments_of.new.out) (codes " } },\n") c.push_str.ensures.bytes in
    after _ old _ _ _ _ t2 last
