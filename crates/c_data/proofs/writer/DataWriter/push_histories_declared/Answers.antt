use Rattle.std.specs.Prelude.{string_bytes}
use Rattle.c_data.specs.Theory.Steps.{after, both}
use Rattle.c_data.specs.Types.{histories_declared}
use Rattle.c_data.proofs.writer.DataWriter.push_histories_declared.Goals as goal

pub returns : goal.returns
unfolding histories_declared
returns c =
    let old = string_bytes c.args.out.now in
    let t2 = both old _ _ _ _ c.in_ok-write.ensures.bytes c.in_ok-write-2.ensures.bytes in
    let t3 = both old _ _ _ _ t2 c.in_ok-write-3.ensures.bytes in
    after _ old _ _ _ _ t3 c.write-4.ensures.bytes
