use Rattle.std.specs.Prelude.{◌≡◌, ◌<◌, ◌-◌, suc, length, slice_get, Some, None}
use Rattle.std.proofs.Common.{refl, sym, ap, ◌∙◌, arith}
use Rattle.std.proofs.lemmas.List.{get_or_read_under}
use Rattle.core_lang.specs.declared.value.Value.TheVariants.{Ref}
use Rattle.runner_machine.specs.Working.Operands.{OperandsOf}
use Rattle.runner_machine.proofs.Stacks.{second_is}
use Rattle.runner_machine.proofs.operands.Operands.second.Goals as goal

pub returns : goal.returns
returns c =
    let values = c.self.inside.values.items in
    let depth = c.self.inside.depth in
    let e : depth ≡ suc (suc (depth - 2)) = omega arith in
    let lt : depth - 2 < length values = omega (arith, c.self.invariant) in
    ap Some (get_or_read_under values (depth - 2) (length values) c.index.result.now (Ref None) c.index.ensures lt refl)
    ∙ sym (second_is values (depth - 2) depth e) ∙ ap (λ (o : OperandsOf). slice_get o.stack 1) c.self.view_is
