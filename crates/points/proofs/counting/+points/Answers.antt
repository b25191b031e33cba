use Rattle.std.proofs.Common.{rules, ◌+◌, ◌*◌, ◌<◌, refl, ap, arith}
use Rattle.flow.specs.Skeletons.{count, Nil}
use Rattle.flow.specs.Working.Parts.{skeleton_of, part_in_front}
use Rattle.flow.specs.Theory.Joined.{count_turn, count_drop}
use Rattle.points.proofs.Arms.{as_if, as_while}
use Rattle.std.proofs.lemmas.List.{at_drop_all}
use Rattle.points.proofs.counting.+points.Goals as goal

pub points_in-points_of-points-requires : goal.points_in-points_of-points-requires
points_in-points_of-points-requires t c =
    let turn = count_turn c.args.parts.now c.loop-part.part-index c.part-item.result c.part-item.is c.loop-part-test.true in
    let all = count_drop c.args.parts.now c.loop-part.part-index in
    let falls : 2 * count (part_in_front c.part-item.result Nil) < 2 * count (skeleton_of c.args.parts.now) + 1 = omega (arith, turn, all) in
    (search rules, omega (arith, turn, c.loop-part.invariant, c.requires))

pub points_in-loop-part-preserved : goal.points_in-loop-part-preserved
points_in-loop-part-preserved t c =
    let turn = count_turn c.args.parts.now c.loop-part.part-index c.part-item.result c.part-item.is c.loop-part-test.true in
    omega (arith, turn, c.points_of-points.ensures, c.loop-part.invariant)

pub points_in-overflow_add-points : goal.points_in-overflow_add-points
points_in-overflow_add-points t c =
    let turn = count_turn c.args.parts.now c.loop-part.part-index c.part-item.result c.part-item.is c.loop-part-test.true in
    omega (arith, turn, c.points_of-points.ensures, c.loop-part.invariant, c.requires)

pub points_of-points_in-requires : goal.points_of-points_in-requires
points_of-points_in-requires t c =
    let is = ap count (as_if c.args.part.now _ _ _ _ c.in-If.is c.deref.ensures.value refl) in
    let falls : 2 * count (skeleton_of c.deref.result.now) + 1 < 2 * count (part_in_front c.args.part.now Nil) = omega (arith, is) in
    (search rules, omega (arith, is, c.requires))

pub points_of-points_in-requires-in-If : goal.points_of-points_in-requires-in-If
points_of-points_in-requires-in-If t c =
    let is = ap count (as_if c.args.part.now _ _ _ _ c.in-If.is c.deref.ensures.value c.deref-in-If.ensures.value) in
    let falls : 2 * count (skeleton_of c.deref-in-If.result.now) + 1 < 2 * count (part_in_front c.args.part.now Nil) = omega (arith, is) in
    (search rules, omega (arith, is, c.requires))

pub points_of-points_in-requires-in-While : goal.points_of-points_in-requires-in-While
points_of-points_in-requires-in-While t c =
    let is = ap count (as_while c.args.part.now _ _ c.in-While.is c.deref-in-While.ensures.value) in
    let falls : 2 * count (skeleton_of c.deref-in-While.result.now) + 1 < 2 * count (part_in_front c.args.part.now Nil) = omega (arith, is) in
    (search rules, omega (arith, is, c.requires))

pub points_in-returns : goal.points_in-returns
points_in-returns t c =
    omega (arith, at_drop_all (λ ps. count (skeleton_of ps)) c.args.parts.now c.loop-part.part-index c.loop-part-test.false, c.loop-part.invariant)
