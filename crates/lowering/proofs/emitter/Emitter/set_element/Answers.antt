use Rattle.std.proofs.Common.{◌∷◌, ◌++◌, ◌+◌, [], ◌∙◌, ap, max}
use Rattle.code.specs.declared.instr.Instr.TheVariants.{Bound, PutElement}
use Rattle.code.specs.Lowering.{expr_code}
use Rattle.code.specs.Needs.{expr_need}
use Rattle.lowering.proofs.Pieces.{four_added, then_adds}
use Rattle.lowering.proofs.emitter.Emitter.set_element.Goals as goal

pub returns : goal.returns
returns c =
    let b = c.acquire.new.self in
    let index = expr_code c.args.index.now in
    let value = expr_code c.args.value.now in
    let array = c.args.array in
    let above = c.in_ok-above.ensures ∙ ap (λ n. 1 + n) c.in_ok-expression.ensures.need in
    then_adds c.args.self.now b c.in_ok-acquire.ensures c.put-2.new.self (index ++ (Bound array ∷ (value ++ PutElement array ∷ [])))
    (max (expr_need c.args.index.now) (1 + expr_need c.args.value.now)) c.max-self.result
    (four_added b.code.instructions.items c.expression.new.self.instructions.items c.put.new.self.instructions.items c.expression-2.new.self.instructions.items
    c.put-2.new.self.instructions.items index value (Bound array) (PutElement array)
    c.in_ok-below.ensures.code c.in_ok-put.ensures c.in_ok-expression.ensures.code c.in_ok-put-2.ensures)
    (c.max-self.ensures ∙ ap (max b.operands) (c.max.ensures ∙ ap (λ n. max n c.in_ok-above.above) c.in_ok-below.ensures.need ∙ ap (max (expr_need c.args.index.now)) above))
