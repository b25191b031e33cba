use Rattle.std.proofs.Common.{◌+◌, ◌-◌, ◌/◌, ◌<◌, sym, arith}
use Rattle.std.specs.Prelude.{pos}
use Rattle.core_lang.specs.declared.value.Value.TheVariants.{Int}
use Rattle.lock_manager.proofs.Heaps.{below_more, above_more, not_there, none_taken, none_written, first_found}
use Rattle.lock_manager.proofs.writes.halved.Goals as goal

pub loop-low-preserved-then-writes-middle : goal.loop-low-preserved-then-writes-middle
loop-low-preserved-then-writes-middle c =
    let inv = c.loop-low.invariant in
    let middle = c.loop-low.low + (c.loop-low.high - c.loop-low.low) / 2 in
    let within : middle < c.loop-low.high = omega (arith, c.loop-low-test.true) in
    record {
      below = below_more c.args.writes.now middle c.args.cell (0, Int (pos 0)) c.requires (omega (arith, within, inv.within)) c.if-writes-middle.true;
      above = inv.above;
      order = omega (arith, within);
      within = inv.within;
    }

pub loop-low-preserved : goal.loop-low-preserved
loop-low-preserved c =
    let inv = c.loop-low.invariant in
    let middle = c.loop-low.low + (c.loop-low.high - c.loop-low.low) / 2 in
    let within : middle < c.loop-low.high = omega (arith, c.loop-low-test.true) in
    record {
      below = inv.below;
      above = above_more c.args.writes.now middle c.args.cell (0, Int (pos 0)) c.requires (omega (arith, within, inv.within)) c.if-writes-middle.false;
      order = omega arith;
      within = omega (arith, within, inv.within);
    }

pub returns-then-low-writes : goal.returns-then-low-writes
returns-then-low-writes c =
    sym (none_written c.args.writes.now c.args.cell (λ i d lt e.
    let less = c.loop-low.invariant.below i d (omega (arith, lt, c.if-low-writes.true)) in absurd (omega (arith, less, e))))

pub returns-then-writes-low : goal.returns-then-writes-low
returns-then-writes-low c =
    let inv = c.loop-low.invariant in
    sym (none_written c.args.writes.now c.args.cell
    (not_there c.args.writes.now c.loop-low.low c.args.cell (0, Int (pos 0)) c.requires (omega (arith, inv.order, inv.within, c.if-low-writes.false)) c.if-writes-low.true
    inv.below (λ i d le lt. inv.above i d (omega (arith, le, c.loop-low-test.false)) lt)))

pub returns : goal.returns
returns c =
    let inv = c.loop-low.invariant in
    sym (first_found c.args.writes.now c.loop-low.low c.args.cell (0, Int (pos 0)) (omega (arith, inv.order, inv.within, c.if-low-writes.false))
    (none_taken c.args.writes.now c.loop-low.low c.args.cell (omega (arith, inv.order, inv.within)) (λ i d lt e. let less = inv.below i d lt in absurd (omega (arith, less, e))))
    c.if-writes-low.false)
