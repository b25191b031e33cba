use Rattle.std.proofs.Common.{◌<◌, ◌+◌, ◌∙◌, ap, take, length, arith}
use Rattle.std.proofs.Math.ListN.{length-set}
use Rattle.std.proofs.lemmas.List.{take_more_set}
use Rattle.lock_manager.proofs.Heaps.{one_value_more}
use Rattle.lock_manager.proofs.values.reset.Goals as goal

pub write-requires : goal.write-requires
write-requires c = omega (arith, c.loop-offset.invariant.long, c.loop-offset-test.true, c.requires.count)

pub loop-offset-preserved : goal.loop-offset-preserved
loop-offset-preserved c =
    let lt : c.loop-offset.offset < length c.args.row.now = omega (arith, c.loop-offset-test.true, c.requires.count) in
    let le : c.loop-offset.offset < length c.loop-offset.cells = omega (arith, lt, c.loop-offset.invariant.long) in
    record {
      made = one_value_more c.args.values.now c.args.row.now c.loop-offset.offset 0 _ (take c.loop-offset.offset c.loop-offset.cells) _ lt
          (c.requires.cells c.loop-offset.offset 0 lt) c.loop-offset.invariant.made
          (ap (take (c.loop-offset.offset + 1)) c.write.ensures ∙ take_more_set c.loop-offset.cells c.loop-offset.offset _ le);
      long = ap length c.write.ensures ∙ length-set c.loop-offset.cells c.loop-offset.offset _ ∙ c.loop-offset.invariant.long;
    }
