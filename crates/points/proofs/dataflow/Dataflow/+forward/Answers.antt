use Rattle.std.proofs.Common.{rules, ◌≡◌, ◌+◌, ◌*◌, ◌-◌, ◌<◌, ◌≤◌, ◌++◌, ◌∙◌, refl, sym, ap, arith, length, replicate}
use Rattle.std.proofs.lemmas.List.{take_all}
use Rattle.flow.specs.Skeletons.{count, Nil}
use Rattle.flow.specs.Working.Parts.{skeleton_of, part_in_front}
use Rattle.flow.specs.Theory.Held.{holds}
use Rattle.locks.specs.Sets.{has}
use Rattle.flow.specs.Theory.HeldLists.{held_turn, through_turn}
use Rattle.flow.specs.Theory.Joined.{count_turn, count_drop}
use Rattle.points.specs.Working.Dataflow.{column, joins, transfers}
use Rattle.points.proofs.Arms.{as_if, as_while, past_of, through_fork, through_loop, forward_fork, forward_loop}
use Rattle.points.proofs.Arms.{through_loop_gen, forward_loop_gen}
use Rattle.points.proofs.dataflow.Dataflow.+forward.Goals as goal

pub forward-loop-part-preserved : goal.forward-loop-part-preserved
forward-loop-part-preserved t c =
    let e = c.in_ok-all.ensures in
    let i = c.loop-part.invariant in
    let h = c.args.self.now in
    let at = c.loop-part.part-index in
    let is = c.part-item.is in
    let within = c.loop-part-test.true in
    let turn = count_turn c.args.parts.now at c.part-item.result is within in
    record {
      sets = λ k. held_turn (transfers h k) (joins h) c.args.parts.now at c.part-item.result is within
          _ _ _ _ _ _ (e.sets k) e.len (e.set k) ∙ i.sets k;
      len = omega (arith, turn, e.len, i.len);
      set = λ k. through_turn (transfers h k) (joins h) c.args.parts.now at c.part-item.result is within
          _ _ _ _ e.len (e.set k) ∙ i.set k;
    }

pub forward_part-returns-in_ok-two-in-If-clause-sets : goal.forward_part-returns-in_ok-two-in-If-clause-sets
forward_part-returns-in_ok-two-in-If-clause-sets t c =
    let h = c.args.self.now in
    let n = c.args.sets.now.len in
    forward_fork h n _ _ _ c.args.set c.transfer-here.result c.args.sets.now c.push-in-If.new.self c.forward.new.sets
    c.forward-in-If.new.sets
    (as_if c.args.part.now _ _ _ _ c.in-If.is c.deref.ensures.value c.deref-in-If.ensures.value) refl
    c.in_ok-push-in-If.ensures.len c.in_ok-one-in-If.ensures.len
    (past_of h n c.len-n.result c.args.set c.transfer-here.result c.len-n.ensures c.transfer-here.ensures)
    c.in_ok-push-in-If.ensures.items c.in_ok-one-in-If.ensures.sets c.in_ok-two-in-If.ensures.sets

pub forward_part-returns-in_ok-two-in-If-clause-set : goal.forward_part-returns-in_ok-two-in-If-clause-set
forward_part-returns-in_ok-two-in-If-clause-set t c =
    let h = c.args.self.now in
    let n = c.args.sets.now.len in
    through_fork h n _ _ _ c.push-in-If.new.self.len c.forward.new.sets.len c.args.set c.transfer-here.result
    c.in_ok-one-in-If.one c.in_ok-two-in-If.two c.join.result
    (as_if c.args.part.now _ _ _ _ c.in-If.is c.deref.ensures.value c.deref-in-If.ensures.value)
    c.in_ok-push-in-If.ensures.len c.in_ok-one-in-If.ensures.len
    (past_of h n c.len-n.result c.args.set c.transfer-here.result c.len-n.ensures c.transfer-here.ensures)
    c.in_ok-one-in-If.ensures.set c.in_ok-two-in-If.ensures.set c.join.ensures

pub forward_part-returns-in_ok-forward-in-While-clause-sets :
    goal.forward_part-returns-in_ok-forward-in-While-clause-sets
forward_part-returns-in_ok-forward-in-While-clause-sets t c =
    let h = c.args.self.now in
    let n = c.args.sets.now.len in
    let pushed = c.push-in-While.new.self in
    let inner = c.transfer-inner.result in
    forward_loop h n _ _ _ c.args.set c.transfer-here.result c.through-end.result.0 c.join-both.result
    inner c.args.sets.now pushed c.forward-in-While.new.sets
    (as_while c.args.part.now _ _ c.in-While.is c.deref-in-While.ensures.value) refl c.in_ok-push-in-While.ensures.len
    (ap (λ m. m + 1) c.len-n.ensures)
    (past_of h n c.len-n.result c.args.set c.transfer-here.result c.len-n.ensures c.transfer-here.ensures)
    c.through-end.ensures.set c.join-both.ensures
    (past_of h n c.len-n.result c.join-both.result inner c.len-n.ensures c.transfer-inner.ensures)
    c.in_ok-push-in-While.ensures.items
    (λ i. c.in_ok-forward-in-While.ensures.sets i
    ∙ ap (λ ps. column i pushed.items ++ holds (transfers h i) (joins h) (skeleton_of ps) pushed.len (has inner i))
    (c.deref-in-While-2.ensures.value ∙ sym c.deref-in-While.ensures.value))

pub forward_part-returns-in_ok-forward-in-While-clause-set : goal.forward_part-returns-in_ok-forward-in-While-clause-set
forward_part-returns-in_ok-forward-in-While-clause-set t c =
    let h = c.args.self.now in
    let n = c.args.sets.now.len in
    through_loop h n _ _ _ c.args.set c.transfer-here.result c.through-end.result.0 c.join-both.result
    c.transfer-inner.result
    (as_while c.args.part.now _ _ c.in-While.is c.deref-in-While.ensures.value) (ap (λ m. m + 1) c.len-n.ensures)
    (past_of h n c.len-n.result c.args.set c.transfer-here.result c.len-n.ensures c.transfer-here.ensures)
    c.through-end.ensures.set c.join-both.ensures
    (past_of h n c.len-n.result c.join-both.result c.transfer-inner.result c.len-n.ensures c.transfer-inner.ensures)

pub forward-forward_part-requires : goal.forward-forward_part-requires
forward-forward_part-requires t c =
    let turn =
    count_turn c.args.parts.now c.loop-part.part-index c.part-item.result c.part-item.is c.loop-part-test.true in
    let all = count_drop c.args.parts.now c.loop-part.part-index in
    let falls : 2 * count (part_in_front c.part-item.result Nil) < 2 * count (skeleton_of c.args.parts.now) + 1 =
    omega (arith, turn, all) in
    (search rules, omega (arith, turn, c.loop-part.invariant.len, c.requires))

pub forward_part-returns-then-is_may-clause-sets : goal.forward_part-returns-then-is_may-clause-sets
forward_part-returns-then-is_may-clause-sets t c =
    let d = c.args.self.now in
    let was = c.args.sets.now in
    let n = was.len in
    let end = c.through-end.result.1 in
    let all = c.through-end.result.0 in
    let resized = c.in_ok-resize-in-While.ensures in
    let times : end - n ≡ count (skeleton_of c.deref-in-While.result.now) + 1 =
    omega (arith, c.through-end.ensures.next, c.len-n.ensures) in
    let within : length was.items ≤ end = omega (arith, was.ok.0, c.through-end.ensures.next, c.len-n.ensures) in
    forward_loop_gen d (c.is_may.ensures c.if-is_may.true) _ _ _ n (end - n) c.args.set c.transfer-here.result all was
    c.resize.new.self
    (as_while c.args.part.now _ _ c.in-While.is c.deref-in-While.ensures.value) refl
    (ap (λ m. m + 1) c.len-n.ensures) times
    (past_of d n c.len-n.result c.args.set c.transfer-here.result c.len-n.ensures c.transfer-here.ensures)
    c.through-end.ensures.set
    (resized.items ∙ ap (λ l. l ++ replicate (end - n) all) (take_all end was.items within))

pub forward_part-returns-then-is_may-clause-set : goal.forward_part-returns-then-is_may-clause-set
forward_part-returns-then-is_may-clause-set t c =
    let d = c.args.self.now in
    let n = c.args.sets.now.len in
    through_loop_gen d (c.is_may.ensures c.if-is_may.true) _ _ _ n c.args.set c.transfer-here.result
    c.through-end.result.0
    (as_while c.args.part.now _ _ c.in-While.is c.deref-in-While.ensures.value) (ap (λ m. m + 1) c.len-n.ensures)
    (past_of d n c.len-n.result c.args.set c.transfer-here.result c.len-n.ensures c.transfer-here.ensures)
    c.through-end.ensures.set
