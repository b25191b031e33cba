use Rattle.std.proofs.Common.{ap}
use Rattle.explanations.specs.Names.{called_by}
use Rattle.explanations.proofs.Added.{added_as}
use Rattle.explanations.proofs.Seen.{repeat_parts}
use Rattle.explanations.proofs.program.+items.Goals as goal

pub push_item-returns-in-Repeat : goal.push_item-returns-in-Repeat
push_item-returns-in-Repeat t c =
    added_as c.push_items.result _ _ _ _
    (ap called_by (repeat_parts c.args.item.now c.in-Repeat.field-0 c.in-Repeat.items c.deref.result.now c.in-Repeat.is c.deref.ensures.value))
    c.push_items.ensures
