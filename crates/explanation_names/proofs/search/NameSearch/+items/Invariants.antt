use Rattle.std.proofs.Common.{drop}
use Rattle.syntax.specs.Views.{items_of}
use Rattle.explanation_names.specs.Working.UsesFound.{uses_of_items}
use Rattle.explanation_names.specs.Working.Values.{locals_at}
use Rattle.explanation_names.proofs.Added.{Tells}
use Rattle.explanation_names.proofs.search.NameSearch.+items.Given as goal

abbrev pub invariant-in_items-items : goal.invariant-in_items-items
invariant-in_items-items l =
    Tells l.self l.initial.found l.found (uses_of_items (locals_at l.self) (items_of (drop l.item-index l.items))) (uses_of_items (locals_at l.self) (items_of l.items))
