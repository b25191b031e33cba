use Rattle.std.specs.Prelude.{string_bytes}
use Rattle.c_data.specs.Theory.Steps.{after, both}
use Rattle.c_data.specs.Openings.{member_text}
use Rattle.c_data.proofs.writer.DataWriter.push_member.Goals as goal

pub returns : goal.returns
unfolding member_text
returns c =
    let old = string_bytes c.args.out.now in
    let t2 = both old _ _ _ _ c.in_ok-push_member_prototype.ensures c.in_ok-write.ensures.bytes in
    after _ old _ _ _ _ t2 c.write-2.ensures.bytes
