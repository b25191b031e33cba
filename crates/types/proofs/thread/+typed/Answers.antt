use Rattle.std.proofs.Common.{◌≡◌, ◌-◌, ℕ, ◌++◌, drop, length, ap, ◌∙◌, subst, arith}
use Rattle.syntax.specs.Views.{items_of}
use Rattle.resolution.specs.Tables.{copies}
use Rattle.resolution.specs.Working.Building.{typed_items}
use Rattle.types.specs.Working.ConstantValues.{cores, Adds}
use Rattle.types_symbols.specs.Working.Views.{decls_of}
use Rattle.types.proofs.Threads.{repeat_never, repeat_wrong, repeat_more}
use Rattle.types.proofs.thread.+typed.Goals as goal

pub add_item-returns-then-n-eq0 : goal.add_item-returns-then-n-eq0
add_item-returns-then-n-eq0 t c =
    repeat_never (decls_of c.args.symbols.now) c.args.item.now c.in-Repeat.n c.in-Repeat.items c.deref.result.now c.all_typed.result c.args.calls.now.items c.in-Repeat.is c.deref.ensures.value c.if-n-eq0.true c.all_typed.ensures

pub add_item-returns-then-not-branch : goal.add_item-returns-then-not-branch
add_item-returns-then-not-branch t c =
    repeat_wrong (decls_of c.args.symbols.now) c.args.item.now c.in-Repeat.n c.in-Repeat.items c.deref-in-Repeat.result.now c.args.calls.now.items c.add_items.new.calls.items c.in-Repeat.is c.deref-in-Repeat.ensures.value
    (subst (λ right. Adds right c.args.calls.now.items c.add_items.new.calls.items (typed_items (decls_of c.args.symbols.now) (items_of c.deref-in-Repeat.result.now))) c.if-not-branch.true c.in_ok-add_items-in-Repeat.ensures)

pub add_item-returns-in_ok-add_copies-in-Repeat : goal.add_item-returns-in_ok-add_copies-in-Repeat
add_item-returns-in_ok-add_copies-in-Repeat t c =
    repeat_more (decls_of c.args.symbols.now) c.args.item.now c.in-Repeat.n c.in-Repeat.items c.deref-in-Repeat.result.now c.args.calls.now.items c.add_items.new.calls.items c.add_copies.new.calls.items (c.in-Repeat.n.value - 1) c.in-Repeat.is c.deref-in-Repeat.ensures.value
    (let n = c.if-n-eq0.false in omega (arith, n))
    (subst (λ right. Adds right c.args.calls.now.items c.add_items.new.calls.items (typed_items (decls_of c.args.symbols.now) (items_of c.deref-in-Repeat.result.now))) c.if-not-branch.false c.in_ok-add_items-in-Repeat.ensures)
    (let m = c.len-from.ensures in let long : c.len-from.result ≡ length c.args.calls.now.items = omega (arith, m) in c.in_ok-add_copies-in-Repeat.ensures ∙ ap (λ (k : ℕ). cores c.add_items.new.calls.items ++ copies (c.in-Repeat.n.value - 1) (drop k (cores c.add_items.new.calls.items))) long)
