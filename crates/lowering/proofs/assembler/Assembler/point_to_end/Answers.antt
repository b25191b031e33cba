use Rattle.std.proofs.Common.{◌∙◌, get_or}
use Rattle.std.proofs.Math.ListN.{length-set}
use Rattle.lowering.proofs.Pieces.{point_turn}
use Rattle.lowering.proofs.assembler.Assembler.point_to_end.Goals as goal

pub loop-place-preserved : goal.loop-place-preserved
loop-place-preserved c =
    let i = c.loop-place.invariant in
    let code = c.loop-place.self.instructions.items in
    record {
      same = point_turn c.args.connective c.len-end.result c.loop-place.place-index c.args.jumps.now code c.jump.result c.loop-place-test.true c.jump.ensures ∙ i.same;
      long = length-set code (get_or c.args.jumps.now c.loop-place.place-index 0) c.jump.result ∙ i.long;
      end = i.end;
    }
