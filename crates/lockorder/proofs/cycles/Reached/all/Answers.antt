use Rattle.std.proofs.Common.{length, refl, ◌∙◌, arith}
use Rattle.std.proofs.lemmas.Option.{slice_get_read}
use Rattle.lockorder.proofs.Reaching.{done_next, all_done, reached_room, known_at}
use Rattle.lockorder.proofs.cycles.Reached.all.Goals as goal

pub reach-requires-clause-class : goal.reach-requires-clause-class
reach-requires-clause-class c =
    known_at c.args.table.now.before.items c.loop-done.reached c.loop-done.invariant.done.reached c.loop-done.done c.index-class.result.now
    (slice_get_read c.loop-done.reached.classes.items (length c.loop-done.reached.classes.items) c.loop-done.done c.index-class.result.now refl (omega (arith, c.loop-done-test.true, c.len.ensures, c.loop-done.reached.classes.ok.0)) c.index-class.ensures)

pub loop-done-smaller : goal.loop-done-smaller
loop-done-smaller c =
    let room = reached_room c.args.table.now.before.items c.loop-done.reached c.loop-done.invariant.done.reached in
    omega (arith, room, c.loop-done-test.true, c.len.ensures, c.loop-done.reached.classes.ok.0)

pub loop-done-init : goal.loop-done-init
loop-done-init c = record {
  target = c.in_ok-reached.ensures.target;
  done = record { reached = c.in_ok-reached.ensures.reached; done = λ i x lt. absurd (omega (arith, lt)) };
}

pub loop-done-preserved : goal.loop-done-preserved
loop-done-preserved c = record {
  target = c.in_ok-reach.ensures.kept.target ∙ c.loop-done.invariant.target;
  done = done_next c.args.table.now.before.items c.loop-done.reached c.reach.new.self c.loop-done.done c.index-class.result.now c.loop-done.invariant.done
      (slice_get_read c.loop-done.reached.classes.items (length c.loop-done.reached.classes.items) c.loop-done.done c.index-class.result.now refl (omega (arith, c.loop-done-test.true, c.len.ensures, c.loop-done.reached.classes.ok.0)) c.index-class.ensures)
      c.in_ok-reach.ensures.reached c.in_ok-reach.ensures.kept c.in_ok-reach.ensures.done;
}

pub returns-clause-all : goal.returns-clause-all
returns-clause-all c =
    all_done c.args.table.now.before.items c.loop-done.reached c.loop-done.done c.loop-done.invariant.done (omega (arith, c.loop-done-test.false, c.len.ensures, c.loop-done.reached.classes.ok.0))
