use Rattle.std.specs.Prelude.{◌≡◌, ◌<◌, ◌-◌, suc, length}
use Rattle.std.proofs.Common.{sym, ap, ◌∙◌, subst, arith}
use Rattle.std.proofs.lemmas.List.{length-set}
use Rattle.runner_machine.specs.Working.Operands.{OperandsOf, with_top}
use Rattle.runner_machine.proofs.Stacks.{length-downward, top_set}
use Rattle.runner_machine.proofs.operands.Operands.set_top.Goals as goal

pub returns : goal.returns
returns c =
    let values = c.self.inside.values.items in
    let depth = c.self.inside.depth in
    let some = subst (λ (o : OperandsOf). 0 < length o.stack) (sym c.self.view_is) c.requires in
    let e : depth ≡ suc (depth - 1) = omega (arith, length-downward values depth) in
    let lt : depth - 1 < length values = omega (arith, c.self.invariant, length-downward values depth) in
    (λ i. record { stack = top_set values (depth - 1) depth c.args.value lt e i; room = length-set values (depth - 1) c.args.value i })
    ∙ ap (λ (o : OperandsOf). with_top o c.args.value) c.self.view_is
