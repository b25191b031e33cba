use Rattle.std.specs.Prelude.{string_bytes}
use Rattle.c_data.specs.Theory.Steps.{after, both}
use Rattle.c_data.proofs.writer.DataWriter.push_functions.Goals as goal

pub returns : goal.returns
returns c =
    let old = string_bytes c.args.out.now in
    let t2 = both old _ _ _ _ c.in_ok-write.ensures.bytes c.in_ok-write-2.ensures.bytes in
    let t3 = both old _ _ _ _ t2 c.in_ok-write-3.ensures.bytes in
    let t4 = both old _ _ _ _ t3 c.in_ok-push_histories_declared.ensures in
    after _ old _ _ _ _ t4 c.push_members_declared.ensures
