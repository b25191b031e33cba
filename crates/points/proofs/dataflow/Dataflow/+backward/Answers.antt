use Rattle.std.proofs.Common.{rules, ◌≡◌, ◌+◌, ◌*◌, ◌-◌, ◌<◌, ◌≤◌, ◌++◌, ◌∙◌, ℕ, refl, sym, ap, arith, length}
use Rattle.std.proofs.Common.{replicate}
use Rattle.std.proofs.lemmas.List.{take_all}
use Rattle.flow.specs.Skeletons.{count, Nil}
use Rattle.flow.specs.Working.Parts.{skeleton_of, part_in_front}
use Rattle.flow.specs.Theory.Gather.{or}
use Rattle.flow.specs.Theory.Joined.{later_turn, behind_turn, start_turn, count_room}
use Rattle.flow.specs.Theory.Passes.{behind}
use Rattle.locks.specs.Sets.{has}
use Rattle.points.specs.Working.Dataflow.{marks}
use Rattle.points.proofs.Arms.{as_if, as_while, behind_loop, backward_fork, backward_loop}
use Rattle.points.proofs.dataflow.Dataflow.+backward.Goals as goal

pub backward-backward_part-requires : goal.backward-backward_part-requires
backward-backward_part-requires t c =
    let room =
    count_room c.args.parts.now c.loop-i.i c.index-parts-i.result c.index-parts-i.is c.loop-i-test.true
    c.loop-i.invariant.within in
    let falls : 2 * count (part_in_front c.index-parts-i.result Nil) < 2 * count (skeleton_of c.args.parts.now) + 1 =
    omega (arith, room) in
    (search rules, (c.requires.may, omega (arith, room, c.loop-i.invariant.len, c.requires.room)))

pub backward-loop-i-preserved : goal.backward-loop-i-preserved
backward-loop-i-preserved t c =
    let e = c.in_ok-all.ensures in
    let i = c.loop-i.invariant in
    let parts = c.args.parts.now in
    let is = c.index-parts-i.is in
    let w = λ (k : ℕ). marks k c.args.self.now.gens.now in
    let total = length c.args.self.now.gens.now in
    let points = count (part_in_front c.index-parts-i.result Nil) in
    let room = count_room parts c.loop-i.i c.index-parts-i.result is c.loop-i-test.true i.within in
    let none : 0 + points ≡ points = omega arith in
    let turn =
    start_turn parts c.loop-i.i c.index-parts-i.result is c.loop-i-test.true i.within points 0 _ refl none in
    let start : total - c.backward_part.new.sets.len + points ≡ total - c.loop-i.sets.len =
    omega (arith, e.len, room, i.len, c.requires.room) in
    record {
      within = omega (arith, i.within);
      sets = λ k. later_turn or (w k) parts c.loop-i.i c.index-parts-i.result is c.loop-i-test.true i.within
          _ _ _ _ _ _ _ (i.sets k) (i.set k) start (e.sets k);
      len = omega (arith, turn, e.len, i.len);
      set = λ k. behind_turn or (w k) parts c.loop-i.i c.index-parts-i.result is c.loop-i-test.true i.within
          _ _ _ _ _ (i.set k) start (e.set k);
    }

pub backward_part-returns-in_ok-push-in-If-clause-sets : goal.backward_part-returns-in_ok-push-in-If-clause-sets
backward_part-returns-in_ok-push-in-If-clause-sets t c =
    let is = as_if c.args.part.now _ _ _ _ c.in-If.is c.deref-in-If.ensures.value c.deref.ensures.value in
    let total = length c.args.self.now.gens.now in
    let n = total - c.push-in-If.new.self.len in
    let one = c.in_ok-one-in-If.ensures in
    let two = c.in_ok-two-in-If.ensures in
    let push = c.in_ok-push-in-If.ensures in
    let of_a : total - c.backward-in-If.new.sets.len ≡ n + 1 =
    omega (arith, ap count is, one.len, two.len, push.len, c.requires.room) in
    let of_b : total - c.backward.new.sets.len ≡ n + 1 + count (skeleton_of c.deref-in-If.result.now) =
    omega (arith, ap count is, one.len, two.len, push.len, c.requires.room) in
    backward_fork c.args.self.now c.requires.may _ _ _ n c.args.set c.in_ok-one-in-If.one c.in_ok-two-in-If.two
    c.join-either.result c.args.sets.now c.backward.new.sets c.backward-in-If.new.sets c.push-in-If.new.self
    is refl of_a of_b one.set two.set c.join-either.ensures two.sets one.sets push.items

pub backward_part-returns-in_ok-resize-in-While-clause-sets :
    goal.backward_part-returns-in_ok-resize-in-While-clause-sets
backward_part-returns-in_ok-resize-in-While-clause-sets t c =
    let was = c.args.sets.now in
    let len = c.len-in-While.result + c.points_in.result + 1 in
    let all = c.through.result.0 in
    let resized = c.in_ok-resize-in-While.ensures in
    let same =
    ap (λ l. count (skeleton_of l)) (c.deref-in-While.ensures.value ∙ sym c.deref-in-While-2.ensures.value) in
    let times : len - was.len ≡ count (skeleton_of c.deref-in-While-2.result.now) + 1 =
    omega (arith, same, c.points_in.ensures, c.len-in-While.ensures) in
    let within : length was.items ≤ len = omega (arith, was.ok.0, c.len-in-While.ensures) in
    backward_loop c.args.self.now c.requires.may _ _ (length c.args.self.now.gens.now - len) (len - was.len)
    c.args.set c.transfer-in-While.result all was c.resize.new.self
    (as_while c.args.part.now _ _ c.in-While.is c.deref-in-While-2.ensures.value)
    (ap (λ m. length c.args.self.now.gens.now - m) resized.len) times
    c.transfer-in-While.ensures c.through.ensures.set
    (resized.items ∙ ap (λ l. l ++ replicate (len - was.len) all) (take_all len was.items within))

pub backward_part-returns-in_ok-resize-in-While-clause-set : goal.backward_part-returns-in_ok-resize-in-While-clause-set
backward_part-returns-in_ok-resize-in-While-clause-set t c =
    let total = length c.args.self.now.gens.now in
    let len = c.len-in-While.result + c.points_in.result + 1 in
    λ i. behind_loop c.args.self.now c.requires.may _ _ (total - len) c.args.set c.transfer-in-While.result
    c.through.result.0
    (as_while c.args.part.now _ _ c.in-While.is c.deref-in-While-2.ensures.value) c.transfer-in-While.ensures
    c.through.ensures.set i
    ∙ ap (λ m. behind or (marks i c.args.self.now.gens.now) (part_in_front c.args.part.now Nil) (total - m)
    (has c.args.set i)) (sym c.in_ok-resize-in-While.ensures.len)
