use Rattle.std.proofs.Common.{drop}
use Rattle.syntax.specs.Views.{items_of}
use Rattle.syntax.specs.Working.Printing.{items_text}
use Rattle.syntax.proofs.Added.{Leads}
use Rattle.syntax.proofs.print_thread.+print_item.Given as goal

abbrev pub invariant-push_items-items : goal.invariant-push_items-items
invariant-push_items-items l = Leads l.initial.out l.out (items_text l.depth (items_of (drop l.item-index l.items))) (items_text l.depth (items_of l.items))
