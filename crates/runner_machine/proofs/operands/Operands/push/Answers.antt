use Rattle.std.specs.Prelude.{◌<◌, length}
use Rattle.std.proofs.Common.{sym, ap, ◌∙◌, subst, arith}
use Rattle.std.proofs.lemmas.List.{length-set}
use Rattle.runner_machine.specs.Working.Operands.{OperandsOf, pushed}
use Rattle.runner_machine.proofs.Stacks.{length-downward, pushed_is}
use Rattle.runner_machine.proofs.operands.Operands.push.Goals as goal

pub index_mut-requires : goal.index_mut-requires
index_mut-requires c =
    let fits = subst (λ (o : OperandsOf). length o.stack < o.room) (sym c.self.view_is) c.requires in
    omega (arith, length-downward c.self.inside.values.items c.self.inside.depth, c.self.inside.values.ok.0)

pub invariant_of-self : goal.invariant_of-self
invariant_of-self c =
    let fits = subst (λ (o : OperandsOf). length o.stack < o.room) (sym c.self.view_is) c.requires in
    omega (arith, length-downward c.self.inside.values.items c.self.inside.depth, length-set c.self.inside.values.items c.self.inside.depth c.args.value)

pub returns : goal.returns
returns c =
    let values = c.self.inside.values.items in
    let depth = c.self.inside.depth in
    let fits = subst (λ (o : OperandsOf). length o.stack < o.room) (sym c.self.view_is) c.requires in
    let lt : depth < length values = omega (arith, length-downward values depth) in
    (λ i. record { stack = pushed_is values depth c.args.value lt i; room = length-set values depth c.args.value i })
    ∙ ap (λ (o : OperandsOf). pushed o c.args.value) c.self.view_is
