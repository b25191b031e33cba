use Rattle.std.proofs.Common.{◌∷◌, []}
use Rattle.code.specs.declared.instr.Instr.TheVariants.{Jump}
use Rattle.lowering.proofs.Pieces.{within_more}
use Rattle.lowering.proofs.emitter.Emitter.skip.Goals as goal

pub land-requires : goal.land-requires
land-requires c = within_more c.args.test_end c.args.self.now.code.instructions.items c.put.new.self.instructions.items (Jump 0 ∷ []) c.requires c.in_ok-put.ensures
