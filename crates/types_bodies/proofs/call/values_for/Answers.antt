use Rattle.std.proofs.Common.{◌<◌, subst}
use Rattle.std.specs.Prelude.{option_map}
use Rattle.resolution.specs.CoreViews.{core_expr}
use Rattle.types_bodies.specs.Working.Checkers.{scope}
use Rattle.types_bodies.specs.Working.Calls.{values_seen}
use Rattle.types_bodies.proofs.Calls.{values_step, values_fault_step}
use Rattle.types_bodies.proofs.call.values_for.Goals as goal

pub loop-i-preserved : goal.loop-i-preserved
loop-i-preserved c =
    let sc = scope c.args.checker.now in
    let ps = c.args.params.now in
    let es = c.args.arguments.now in
    let i = c.loop-i.i in
    let p = c.index-params-i.result in
    let e = c.index-arguments-i.result in
    let few = c.loop-i-test.true in
    let less = subst (λ n. i < n) c.requires few in
    record {
      value = values_step sc ps es i p e few less c.index-params-i.is c.index-arguments-i.is c.want_of-wanted.result c.want_of-wanted.ensures (values_seen c.loop-i.values) (values_seen c.in_ok-values.values) (option_map core_expr c.in-Ok.value) _ c.in_ok-values.ensures c.in-Ok.ensures.value c.loop-i.invariant.value;
      faults = values_fault_step sc ps es i p e few less c.index-params-i.is c.index-arguments-i.is c.want_of-wanted.result c.want_of-wanted.ensures c.loop-i.firsts c.value.new.firsts _ c.in-Ok.ensures.faults c.loop-i.invariant.faults;
    }
