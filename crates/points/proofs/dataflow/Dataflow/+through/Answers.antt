use Rattle.std.proofs.Common.{rules, ◌+◌, ◌*◌, ◌<◌, ◌∙◌, refl, arith}
use Rattle.flow.specs.Skeletons.{count, Nil}
use Rattle.flow.specs.Working.Parts.{skeleton_of, part_in_front}
use Rattle.flow.specs.Theory.HeldLists.{through_turn}
use Rattle.flow.specs.Theory.Joined.{count_turn, count_drop}
use Rattle.points.specs.Working.Dataflow.{joins, transfers}
use Rattle.points.proofs.Arms.{as_if, as_while, through_fork, through_loop}
use Rattle.points.proofs.dataflow.Dataflow.+through.Goals as goal

pub through-loop-part-preserved : goal.through-loop-part-preserved
through-loop-part-preserved t c =
    let e = c.through_part-next.ensures in
    let i = c.loop-part.invariant in
    let h = c.args.self.now in
    let at = c.loop-part.part-index in
    let is = c.part-item.is in
    let within = c.loop-part-test.true in
    let turn = count_turn c.args.parts.now at c.part-item.result is within in
    record {
      set = λ k. through_turn (transfers h k) (joins h) c.args.parts.now at c.part-item.result is within
          _ _ _ _ e.next (e.set k) ∙ i.set k;
      next = omega (arith, turn, e.next, i.next);
    }

pub through_part-returns-in-If-clause-set : goal.through_part-returns-in-If-clause-set
through_part-returns-in-If-clause-set t c =
    through_fork c.args.self.now c.args.n _ _ _ _ _ c.args.set c.transfer-here.result c.through-middle.result.0
    c.through-end.result.0 c.join.result
    (as_if c.args.part.now _ _ _ _ c.in-If.is c.deref.ensures.value c.deref-in-If.ensures.value) refl
    c.through-middle.ensures.next c.transfer-here.ensures
    c.through-middle.ensures.set c.through-end.ensures.set c.join.ensures

pub through-through_part-next-requires : goal.through-through_part-next-requires
through-through_part-next-requires t c =
    let turn =
    count_turn c.args.parts.now c.loop-part.part-index c.part-item.result c.part-item.is c.loop-part-test.true in
    let all = count_drop c.args.parts.now c.loop-part.part-index in
    let falls : 2 * count (part_in_front c.part-item.result Nil) < 2 * count (skeleton_of c.args.parts.now) + 1 =
    omega (arith, turn, all) in
    (search rules, omega (arith, turn, c.loop-part.invariant.next, c.requires))

pub through_part-returns-in-While-clause-set : goal.through_part-returns-in-While-clause-set
through_part-returns-in-While-clause-set t c =
    through_loop c.args.self.now c.args.n _ _ _ c.args.set c.transfer-here.result c.through-end-in-While.result.0
    c.join-in-While.result c.transfer.result
    (as_while c.args.part.now _ _ c.in-While.is c.deref-in-While.ensures.value) refl c.transfer-here.ensures
    c.through-end-in-While.ensures.set c.join-in-While.ensures c.transfer.ensures
