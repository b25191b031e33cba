use Rattle.std.proofs.Common.{◌∷◌, ◌++◌, ◌+◌, [], ◌∙◌, ap, max}
use Rattle.code.specs.declared.instr.Instr.TheVariants.{NonNull}
use Rattle.code.specs.Lowering.{expr_code, path_code}
use Rattle.code.specs.Needs.{expr_need}
use Rattle.lowering.proofs.Pieces.{four_added, then_adds}
use Rattle.lowering.proofs.emitter.Emitter.set_field.Goals as goal

pub returns : goal.returns
returns c =
    let b = c.acquire.new.self in
    let base = path_code c.args.base.now in
    let value = expr_code c.args.value.now in
    then_adds c.args.self.now b c.in_ok-acquire.ensures c.put-2.new.self (base ++ (NonNull ∷ (value ++ c.args.last ∷ []))) (1 + expr_need c.args.value.now) c.max-self.result
    (four_added b.code.instructions.items c.path.new.self.instructions.items c.put.new.self.instructions.items c.expression.new.self.instructions.items
    c.put-2.new.self.instructions.items base value NonNull c.args.last
    c.in_ok-path.ensures c.in_ok-put.ensures c.in_ok-expression.ensures.code c.in_ok-put-2.ensures)
    (c.max-self.ensures ∙ ap (max b.operands) (c.in_ok-need.ensures ∙ ap (λ n. 1 + n) c.in_ok-expression.ensures.need))
