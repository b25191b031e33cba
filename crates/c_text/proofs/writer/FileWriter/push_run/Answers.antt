use Rattle.std.specs.Prelude.{string_bytes}
use Rattle.c_data.specs.Theory.Steps.{after, both}
use Rattle.c_text.specs.Mains.{run_text}
use Rattle.c_text.proofs.writer.FileWriter.push_run.Goals as goal

pub returns : goal.returns
unfolding run_text
returns c =
    let old = string_bytes c.args.out.now in
    let t2 = both old _ _ _ _ c.in_ok-write.ensures.bytes c.in_ok-write-2.ensures.bytes in
    after _ old _ _ _ _ t2 c.write-3.ensures.bytes
