use Rattle.std.proofs.Common.{◌∷◌, ◌++◌, [], ◌∙◌, ap, max}
use Rattle.code.specs.Lowering.{expr_code}
use Rattle.code.specs.Needs.{expr_need}
use Rattle.lowering.proofs.Pieces.{two_added, then_adds}
use Rattle.lowering.proofs.emitter.Emitter.evaluate.Goals as goal

pub returns : goal.returns
returns c =
    let b = c.acquire.new.self in
    let value = expr_code c.args.value.now in
    then_adds c.args.self.now b c.in_ok-acquire.ensures c.put.new.self (value ++ c.args.last ∷ []) (expr_need c.args.value.now) c.max-self.result
    (two_added b.code.instructions.items c.expression.new.self.instructions.items c.put.new.self.instructions.items value (c.args.last ∷ [])
    c.in_ok-need.ensures.code c.in_ok-put.ensures)
    (c.max-self.ensures ∙ ap (max b.operands) c.in_ok-need.ensures.need)
