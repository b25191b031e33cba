use Rattle.std.proofs.Common.{◌≡◌, ◌∙◌, ◌-◌, ◌++◌, ℕ, List, length, append-nil, arith, ap, sym}
use Rattle.input_files.specs.declared.item.Item.{Item}
use Rattle.interleavings.specs.Drawn.{draw_items, stream_at}
use Rattle.interleavings.proofs.Draws.{one_more, none_left, can_come}
use Rattle.interleavings.proofs.drawing.drawn_of.Goals as goal

pub drawing-preserved : goal.drawing-preserved
drawing-preserved c = record {
  few = grind (arith, c.drawing-test.true, c.push.ensures.len);
  each = can_come c.args.threads c.drawing.items.items c.push.new.self.items c.item.result c.drawing.invariant.each
      c.item.ensures.thread c.item.ensures.few c.in_ok-push.ensures.items;
  drawn = one_more c.args.threads c.args.count c.drawing.items.items c.push.new.self.items (stream_at c.drawing.random)
      (stream_at c.item.new.random) c.item.result (omega (arith, c.drawing-test.true, c.len.ensures))
      c.item.ensures.value
      c.in_ok-push.ensures.items ∙ c.drawing.invariant.drawn;
}

pub returns-clause-items : goal.returns-clause-items
returns-clause-items c =
    let none : c.args.count - length c.drawing.items.items ≡ 0 = omega (arith, c.drawing-test.false, c.len.ensures) in
    let rest = stream_at c.drawing.random in
    sym (ap (λ (more : List Item). c.drawing.items.items ++ more)
    (ap (λ (n : ℕ). draw_items c.args.threads n rest) none ∙ none_left c.args.threads rest)
    ∙ append-nil c.drawing.items.items)
    ∙ c.drawing.invariant.drawn
