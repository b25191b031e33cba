use Rattle.std.proofs.Common.{refl}
use Rattle.syntax.specs.Views.{items_of}
use Rattle.explanation_names.specs.Working.UsesFound.{uses_of_items}
use Rattle.explanation_names.specs.Working.Values.{locals_at}
use Rattle.explanation_names.proofs.Added.{both, tells_first, item_said, all_said, said_as}
use Rattle.explanation_names.proofs.Seen.{repeat_seen}
use Rattle.explanation_names.proofs.search.NameSearch.+items.Goals as goal

pub in_item-returns-in-Call : goal.in_item-returns-in-Call
in_item-returns-in-Call t c = rw c.in-Call.is (both c.of_kind.ensures (rw c.deref.ensures.value at c.in_consts.ensures))

pub in_item-returns-in-Repeat : goal.in_item-returns-in-Repeat
in_item-returns-in-Repeat t c =
    said_as (repeat_seen (locals_at c.args.self.now) c.args.item.now c.in-Repeat.field-0 c.in-Repeat.items _ c.in-Repeat.is c.deref-in-Repeat.ensures.value) c.in_items.ensures

pub in_items-items-init : goal.in_items-items-init
in_items-items-init t c = tells_first _ _ _

pub in_items-items-preserved : goal.in_items-items-preserved
in_items-items-preserved t c =
    item_said (λ xs. uses_of_items (locals_at c.args.self.now) (items_of xs)) c.args.items.now c.items.item-index c.item-item.result c.items-test.true c.item-item.is refl
    c.items.invariant c.in_item.ensures

pub in_items-returns : goal.in_items-returns
in_items-returns t c =
    all_said (λ xs. uses_of_items (locals_at c.args.self.now) (items_of xs)) c.args.items.now c.items.item-index c.items-test.false refl c.items.invariant
