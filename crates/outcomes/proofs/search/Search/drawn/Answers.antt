use Rattle.std.proofs.Common.{◌≡◌, ◌∙◌, ℕ, List, ap, refl, arith, rules}
use Rattle.core_lang.specs.declared.value.Value.{Value}
use Rattle.core_lang.specs.Serial.{opening_heap}
use Rattle.meaning.specs.Working.Undo.{undone}
use Rattle.outcomes.specs.declared.drawing.Drawing.{Drawing}
use Rattle.outcomes.specs.Ends.{seen_cells}
use Rattle.outcomes.specs.Working.Trails.{IsBegun}
use Rattle.outcomes.proofs.Whole.{stops_after}
use Rattle.outcomes.proofs.Drawn.{no_ends_drawn, ends_more, are_drawn_ends}
use Rattle.outcomes.proofs.search.Search.drawn.Goals as goal

pub returns-in-Some : goal.returns-in-Some
returns-in-Some c =
    rw (c.in_ok-order.ensures.items, c.deref-in-Some.ensures.value)
    (stops_after c.whole_within_some_turns.ensures.over c.args.self.now.program.now c.args.self.now.turns c.args.self.now.asked.now.answers c.walk.new.walk.order.items c.in-Some.thread
    (rw c.in-Some.is at c.in_ok-thread.ensures))

pub loop-init : goal.loop-init
loop-init c =
    let searched = c.args.self.now in
    let back : undone c.new.result.items c.in_ok-heap.heap ≡ opening_heap searched.program.now =
    ap (λ (w : List (ℕ × Value)). undone w c.in_ok-heap.heap) c.new.ensures.items ∙ c.in_ok-heap.ensures.opens in
    let opening : c.new-5.result.opening ≡ seen_cells searched.asked.now.cells (opening_heap searched.program.now) = search rules in
    let begun : IsBegun c.new-6.result = search rules in
    no_ends_drawn searched _ back opening begun c.new-5.ensures.states

pub loop-preserved : goal.loop-preserved
loop-preserved c =
    let walked = rw c.in_default.is at c.in_ok-thread.ensures in
    let old : Drawing = record { walk = c.walk.new.walk; ends = c.loop.drawing.ends; trail = c.loop.drawing.trail } in
    ends_more c.args.self.now c.loop.drawing old c.note.new.self c.loop.counter c.loop.invariant refl refl walked.0 walked.1 c.in_ok-note.ensures

pub returns : goal.returns
returns c =
    let all : c.loop.counter ≡ c.args.self.now.most = omega (arith, c.loop-test.false, c.loop.auto.counter-end) in
    are_drawn_ends c.whole_within_some_turns.ensures.over c.args.self.now c.loop.drawing c.loop.counter _ c.requires.more c.loop.invariant all
    c.in_ok-told.ensures
