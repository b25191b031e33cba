use Rattle.std.proofs.Common.{◌∷◌, [], get_or}
use Rattle.std.proofs.lemmas.Result.{on_ok_weaker}
use Rattle.code.specs.declared.instr.Instr.TheVariants.{Jump}
use Rattle.lowering.proofs.Pieces.{closes, truth_passed, within_more}
use Rattle.lowering.proofs.assembler.Assembler.close.Goals as goal

pub point_to_end-requires : goal.point_to_end-requires
point_to_end-requires c = λ k d lt.
    within_more (get_or c.args.jumps.now k d) c.args.self.now.instructions.items c.put.new.self.instructions.items (Jump 1 ∷ []) (c.requires k d lt) c.in_ok-put.ensures

pub returns : goal.returns
returns c =
    on_ok_weaker c.put-2.result
    (λ e. closes c.args.connective c.args.jumps.now c.args.self.now.instructions.items c.put.new.self.instructions.items c.point_to_end.new.self.instructions.items
    c.put-2.new.self.instructions.items _ c.in_ok-put.ensures c.point_to_end.ensures
    (truth_passed c.args.connective c.decided.result c.decided.ensures) e)
    c.put-2.ensures
