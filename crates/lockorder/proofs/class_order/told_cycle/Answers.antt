use Rattle.std.proofs.Common.{sym, subst, ap, map, ◌∙◌}
use Rattle.lockorder.specs.declared.ranks.ClassPair.{ClassPair}
use Rattle.lockorder.specs.Faults.{IsCycleOf}
use Rattle.lockorder.specs.Working.Tellings.{AreEdges}
use Rattle.lockorder.proofs.Tells.{cycle_leads, told_cycle}
use Rattle.lockorder.proofs.class_order.told_cycle.Goals as goal

pub told-requires-clause-pairs : goal.told-requires-clause-pairs
told-requires-clause-pairs c =
    subst (AreEdges c.args.program.now) (sym (c.deref.ensures.value ∙ c.in_ok-pairs.ensures)) (cycle_leads c.args.program.now c.args.cycle.now c.requires.cycle)

pub returns : goal.returns
returns c =
    subst (IsCycleOf c.args.program.now) (sym (c.in_ok-edges.ensures ∙ ap (map (λ (z : ClassPair). z.edge)) c.deref-2.ensures.value))
    (told_cycle c.args.program.now c.args.cycle.now c.in_ok-told.told.items c.requires.cycle (c.in_ok-told.ensures.pairs ∙ c.deref.ensures.value ∙ c.in_ok-pairs.ensures) c.in_ok-told.ensures.made)
