use Rattle.std.proofs.Common.{◌-◌, ◌<◌, ap, length, drop, arith}
use Rattle.core_lang.specs.declared.value.Value.TheVariants.{Int}
use Rattle.std.specs.Prelude.{pos}
use Rattle.code.specs.Theory.Values.{length-overwritten}
use Rattle.lock_manager.proofs.Heaps.{one_more_made, none_made, one_less_left}
use Rattle.lock_manager.proofs.values.write_all.Goals as goal

pub index_mut-requires : goal.index_mut-requires
index_mut-requires c =
    let lt : c.loop-left.left - 1 < length c.args.writes.now = omega (arith, c.loop-left.invariant.within, c.loop-left-test.true) in
    omega (
      arith,
      c.requires (c.loop-left.left - 1) (0, Int (pos 0)) lt,
      ap length c.loop-left.invariant.made,
      length-overwritten c.args.values.now.items (drop c.loop-left.left c.args.writes.now),
      c.loop-left.values.ok.0,
    )

pub loop-left-init : goal.loop-left-init
loop-left-init c = record { made = none_made c.args.values.now.items c.args.writes.now; within = omega arith }

pub loop-left-preserved : goal.loop-left-preserved
loop-left-preserved c = record {
  made = one_more_made c.args.values.now.items c.args.writes.now c.loop-left.left (0, Int (pos 0)) c.loop-left.values.items c.loop-left-test.true c.loop-left.invariant.within
      c.loop-left.invariant.made;
  within = one_less_left c.loop-left.left (length c.args.writes.now) c.loop-left.invariant.within;
}
