use Rattle.std.proofs.Common.{◌++◌, ◌∷◌, [], ap, ◌∙◌}
use Rattle.lockorder.proofs.Reaching.{way_starts, way_goes_on, way_closes, way_within, nearest_is_some}
use Rattle.lockorder.proofs.Reaching.{nearest_is_nearer, none_if_not_some, on_no_cycle}
use Rattle.lockorder.proofs.cycles.Reached.cycle.Goals as goal

pub returns-in_default : goal.returns-in_default
returns-in_default c =
    on_no_cycle c.args.table.now.before.items c.args.self.now c.requires.all
    (none_if_not_some _ _ _ _ c.nearest.result c.nearest.ensures c.in_default.not-Some)

pub loop-distance-init : goal.loop-distance-init
loop-distance-init c =
    way_starts c.args.table.now.before.items c.args.self.now c.requires.all c.in-Some.first.0 c.in-Some.first.1 c.push.new.self.items c.in-Some.ensures.0 c.in-Some.ensures.1
    (c.in_ok-push.ensures.items ∙ ap (λ l. l ++ c.args.self.now.target ∷ []) c.new-cycle.ensures.items)

pub nearest-requires-in-loop-distance-clause-class : goal.nearest-requires-in-loop-distance-clause-class
nearest-requires-in-loop-distance-clause-class c =
    way_within c.args.table.now.before.items c.args.self.now c.requires.all c.loop-distance.cycle.items c.loop-distance.class c.loop-distance.distance c.loop-distance.invariant

pub unreachable-requires : goal.unreachable-requires
unreachable-requires c =
    nearest_is_some c.args.table.now.before.items c.args.self.now c.requires.all c.loop-distance.class c.loop-distance.distance c.loop-distance-test.true c.loop-distance.invariant.at
    (none_if_not_some _ _ _ _ c.nearest-in-loop-distance.result c.nearest-in-loop-distance.ensures c.in_default-nearest.not-Some)

pub loop-distance-smaller : goal.loop-distance-smaller
loop-distance-smaller c =
    nearest_is_nearer c.args.table.now.before.items c.args.self.now c.requires.all c.loop-distance.class c.loop-distance.distance c.loop-distance-test.true c.loop-distance.invariant.at
    c.in-Some-nearest.next c.in-Some-nearest.ensures

pub loop-distance-preserved : goal.loop-distance-preserved
loop-distance-preserved c =
    let less = nearest_is_nearer c.args.table.now.before.items c.args.self.now c.requires.all c.loop-distance.class c.loop-distance.distance c.loop-distance-test.true c.loop-distance.invariant.at
    c.in-Some-nearest.next c.in-Some-nearest.ensures in
    way_goes_on c.args.table.now.before.items c.args.self.now c.requires.all c.loop-distance.cycle.items c.push-in-loop-distance.new.self.items c.loop-distance.class c.loop-distance.distance
    c.in-Some-nearest.next.0 c.in-Some-nearest.next.1 c.loop-distance.invariant c.loop-distance-test.true c.in-Some-nearest.ensures.0 c.in-Some-nearest.ensures.1 less c.in_ok-push-2.ensures.items

pub returns : goal.returns
returns c =
    way_closes c.args.table.now.before.items c.args.self.now c.requires.all c.loop-distance.cycle.items c.loop-distance.class c.loop-distance.distance c.loop-distance.invariant c.loop-distance-test.false
