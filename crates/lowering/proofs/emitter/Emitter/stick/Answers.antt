use Rattle.std.proofs.Common.{◌∷◌, []}
use Rattle.code.specs.declared.instr.Instr.TheVariants.{PushNull, PrintTop}
use Rattle.lowering.proofs.Pieces.{two_added, then_adds}
use Rattle.lowering.proofs.emitter.Emitter.stick.Goals as goal

pub returns : goal.returns
returns c =
    let b = c.acquire.new.self in
    then_adds c.args.self.now b c.in_ok-acquire.ensures c.put-2.new.self (PushNull ∷ (PrintTop ∷ [])) 1 c.max-self.result
    (two_added b.code.instructions.items c.put.new.self.instructions.items c.put-2.new.self.instructions.items (PushNull ∷ []) (PrintTop ∷ [])
    c.in_ok-put.ensures c.in_ok-put-2.ensures)
    c.max-self.ensures
