use Rattle.std.proofs.Common.{rules, ◌+◌, ◌*◌, ◌<◌, ◌∙◌, refl, arith}
use Rattle.flow.specs.Skeletons.{count, Nil}
use Rattle.flow.specs.Working.Parts.{skeleton_of, part_in_front}
use Rattle.flow.specs.Theory.Joined.{count_turn, count_drop}
use Rattle.points.proofs.Arms.{as_if, as_while}
use Rattle.points.proofs.EndLists.{ends_turn, fork_ends, loop_ends}
use Rattle.points.proofs.ends.+ends.Goals as goal

pub push_ends-push_part-requires : goal.push_ends-push_part-requires
push_ends-push_part-requires t c =
    let turn = count_turn c.args.parts.now c.loop-part.part-index c.part-item.result c.part-item.is c.loop-part-test.true in
    let all = count_drop c.args.parts.now c.loop-part.part-index in
    let falls : 2 * count (part_in_front c.part-item.result Nil) < 2 * count (skeleton_of c.args.parts.now) + 1 = omega (arith, turn, all) in
    search rules

pub push_ends-loop-part-preserved : goal.push_ends-loop-part-preserved
push_ends-loop-part-preserved t c =
    ends_turn c.args.parts.now c.loop-part.part-index c.part-item.result c.part-item.is c.loop-part-test.true c.loop-part.ends.items c.push_part.new.ends.items c.in_ok-push_part.ensures
    ∙ c.loop-part.invariant

pub push_part-returns-in_ok-push_ends-in-If-2 : goal.push_part-returns-in_ok-push_ends-in-If-2
push_part-returns-in_ok-push_ends-in-If-2 t c =
    fork_ends (skeleton_of c.deref.result.now) c.args.ends.now.items c.push.new.self.items c.push_ends.new.ends.items _ c.in_ok-push.ensures.items c.in_ok-push_ends-in-If.ensures
    (part_in_front c.args.part.now Nil) (skeleton_of c.deref-in-If.result.now) c.push_ends-in-If.new.ends.items _ c.len-n.result c.len-middle.result c.len-end.result
    (as_if c.args.part.now _ _ _ _ c.in-If.is c.deref.ensures.value c.deref-in-If.ensures.value) (c.len-n.ensures ∙ c.args.ends.now.ok.0)
    (c.len-middle.ensures ∙ c.push_ends.new.ends.ok.0) c.in_ok-push_ends-in-If-2.ensures (c.len-end.ensures ∙ c.push_ends-in-If.new.ends.ok.0) refl

pub push_part-returns-in_ok-push_ends-in-While : goal.push_part-returns-in_ok-push_ends-in-While
push_part-returns-in_ok-push_ends-in-While t c =
    loop_ends (skeleton_of c.deref-in-While.result.now) c.args.ends.now.items c.push.new.self.items c.push_ends-in-While.new.ends.items _ c.in_ok-push.ensures.items
    c.in_ok-push_ends-in-While.ensures (part_in_front c.args.part.now Nil) _ c.len-n.result c.len-end-in-While.result
    (as_while c.args.part.now _ _ c.in-While.is c.deref-in-While.ensures.value) (c.len-n.ensures ∙ c.args.ends.now.ok.0)
    (c.len-end-in-While.ensures ∙ c.push_ends-in-While.new.ends.ok.0) refl
