use Rattle.std.proofs.Common.{arith}
use Rattle.outcomes.proofs.Drawn.{walk_fits, from_first, from_within, from_next, done_within, is_left}
use Rattle.outcomes.proofs.search.Search.thread_of.Goals as goal

pub loop-number-init : goal.loop-number-init
loop-number-init c = from_first c.args.self.now c.args.walk.now c.args.number c.requires.walk c.requires.number

pub left-requires-clause-thread : goal.left-requires-clause-thread
left-requires-clause-thread c =
    from_within c.args.self.now.program.now.threads.items c.args.walk.now.done.items c.loop-number.thread c.loop-number.number c.loop-number.invariant

pub left-requires-clause-threads : goal.left-requires-clause-threads
left-requires-clause-threads c = rw c.deref.ensures.value (walk_fits c.args.self.now c.args.walk.now c.requires.walk).0

pub left-requires-clause-few : goal.left-requires-clause-few
left-requires-clause-few c = rw c.deref.ensures.value (done_within c.args.self.now c.args.walk.now c.loop-number.thread c.requires.walk)

pub left-number-requires-clause-thread : goal.left-number-requires-clause-thread
left-number-requires-clause-thread c =
    from_within c.args.self.now.program.now.threads.items c.args.walk.now.done.items c.loop-number.thread c.loop-number.number c.loop-number.invariant

pub left-number-requires-clause-threads : goal.left-number-requires-clause-threads
left-number-requires-clause-threads c =
    rw c.deref-in-loop-number.ensures.value (walk_fits c.args.self.now c.args.walk.now c.requires.walk).0

pub left-number-requires-clause-few : goal.left-number-requires-clause-few
left-number-requires-clause-few c =
    rw c.deref-in-loop-number.ensures.value (done_within c.args.self.now c.args.walk.now c.loop-number.thread c.requires.walk)

pub overflow_add-thread : goal.overflow_add-thread
overflow_add-thread c =
    let inside = from_within c.args.self.now.program.now.threads.items c.args.walk.now.done.items c.loop-number.thread c.loop-number.number c.loop-number.invariant in
    omega (arith, inside, c.args.self.now.program.now.threads.small)

pub loop-number-smaller : goal.loop-number-smaller
loop-number-smaller c =
    let inside = from_within c.args.self.now.program.now.threads.items c.args.walk.now.done.items c.loop-number.thread c.loop-number.number c.loop-number.invariant in
    omega (arith, inside)

pub loop-number-preserved : goal.loop-number-preserved
loop-number-preserved c =
    from_next c.args.self.now c.args.walk.now c.loop-number.thread c.loop-number.number c.left-number.result c.requires.walk c.loop-number.invariant
    (rw c.deref-in-loop-number.ensures.value at c.left-number.ensures)
    (let test = c.loop-number-test.true in
    let first = rw c.deref.ensures.value at c.left.ensures in
    let second = rw c.deref-in-loop-number.ensures.value at c.left-number.ensures in omega (arith, test, first, second))

pub returns : goal.returns
returns c =
    is_left c.args.self.now c.args.walk.now c.loop-number.thread c.loop-number.number c.left.result c.requires.walk
    (rw c.deref.ensures.value at c.left.ensures) (omega (arith, c.loop-number-test.false))
