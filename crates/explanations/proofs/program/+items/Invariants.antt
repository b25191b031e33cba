use Rattle.std.proofs.Common.{◌≡◌, ◌++◌, drop}
use Rattle.syntax.specs.Views.{items_of}
use Rattle.explanations.specs.Names as name
use Rattle.explanations.specs.Working.Values.{idents}
use Rattle.explanations.proofs.program.+items.Given as goal

abbrev pub invariant-push_items-items : goal.invariant-push_items-items
invariant-push_items-items l =
    idents l.out.items ++ name.called_by_all (items_of (drop l.item-index l.items)) ≡ idents l.initial.out.items ++ name.called_by_all (items_of l.items)
