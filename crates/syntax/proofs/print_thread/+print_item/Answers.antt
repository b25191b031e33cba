use Rattle.std.proofs.Common.{refl}
use Rattle.syntax.specs.Views.{items_of}
use Rattle.syntax.specs.Working.Printing.{items_text}
use Rattle.syntax.proofs.Added.{followed_by, spelled, at_first, item_added, all_added}
use Rattle.syntax.proofs.Pushes.{repeat_is}
use Rattle.syntax.proofs.print_thread.+print_item.Goals as goal

pub push_item-returns-in-Repeat : goal.push_item-returns-in-Repeat
push_item-returns-in-Repeat t c =
    spelled (repeat_is _ _ _ _ c.in-Repeat.is) (followed_by (followed_by (followed_by (followed_by (followed_by (followed_by c.push_str.ensures c.push_number.ensures) c.push_str-in-Repeat.ensures) (rw (c.deref.ensures.value, c.deeper.ensures) at c.push_items.ensures)) c.push_str-in-Repeat-2.ensures) c.push_indent.ensures) c.push_str-in-Repeat-3.ensures)

pub push_items-items-init : goal.push_items-items-init
push_items-items-init t c = at_first _ _

pub push_items-items-preserved : goal.push_items-items-preserved
push_items-items-preserved t c =
    item_added (λ l. items_text c.args.depth (items_of l)) c.args.items.now c.items.item-index c.item-item.result c.items-test.true c.item-item.is refl c.items.invariant (followed_by (followed_by c.push_str.ensures c.push_indent.ensures) c.push_item.ensures)

pub push_items-returns : goal.push_items-returns
push_items-returns t c =
    all_added (λ l. items_text c.args.depth (items_of l)) c.args.items.now c.items.item-index c.items-test.false refl c.items.invariant
