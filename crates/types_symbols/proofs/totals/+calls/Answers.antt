use Rattle.std.proofs.Common.{ℕ, ◌+◌, ◌*◌, ◌∙◌, List, ap, sym, drop}
use Rattle.syntax.specs.Views.{item_of, items_of}
use Rattle.syntax.specs.Theory.Rows.{item_of_Repeat}
use Rattle.resolution.specs.Limits.{CALL_LIMIT}
use Rattle.resolution.specs.Numbers.{calls_in, calls_in_all}
use Rattle.types_symbols.specs.Working.Capped.{capped}
use Rattle.syntax.specs.declared.tree.Item as rust
use Rattle.types_symbols.specs.Theory.Steps.{step}
use Rattle.types_symbols.proofs.Counting.{sum_step}
use Rattle.types_symbols.proofs.Sums.{again_product}
use Rattle.types_symbols.proofs.totals.+calls.Goals as goal

pub calls_of_item-returns-in-Repeat-clause-calls : goal.calls_of_item-returns-in-Repeat-clause-calls
calls_of_item-returns-in-Repeat-clause-calls t c =
    c.times.ensures.product
    ∙ ap (λ (k : ℕ). capped CALL_LIMIT (c.in-Repeat.n.value * k)) c.calls_of_items.ensures.calls
    ∙ again_product CALL_LIMIT c.in-Repeat.n.value (calls_in_all (items_of c.deref.result.now))
    ∙ ap (λ xs. capped CALL_LIMIT (c.in-Repeat.n.value * calls_in_all (items_of xs))) c.deref.ensures.value
    ∙ ap (λ y. capped CALL_LIMIT (calls_in y)) (sym (ap item_of c.in-Repeat.is ∙ item_of_Repeat c.in-Repeat.n c.in-Repeat.items))

pub calls_of_items-loop-item-preserved : goal.calls_of_items-loop-item-preserved
calls_of_items-loop-item-preserved t c =
    let rest = calls_in_all (items_of (drop (c.loop-item.item-index + 1) c.args.items.now)) in
    record {
      sum = step (λ (xs : List rust.Item). capped CALL_LIMIT (c.loop-item.calls + calls_in_all (items_of xs))) (λ (xs : List rust.Item). capped CALL_LIMIT (c.add-calls.result + calls_in_all (items_of xs))) c.args.items.now c.loop-item.item-index c.item-item.result _ c.loop-item-test.true c.item-item.is
          (sum_step CALL_LIMIT c.loop-item.calls (calls_in (item_of c.item-item.result)) c.calls_of_item.result c.add-calls.result rest c.calls_of_item.ensures.calls c.add-calls.ensures.sum)
          c.loop-item.invariant.sum;
      within = c.add-calls.ensures.within;
    }
