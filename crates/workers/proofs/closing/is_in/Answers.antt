use Rattle.std.proofs.Common.{subst}
use Rattle.workers.specs.Logs.{Begins}
use Rattle.workers.proofs.Passing.{answers_in}
use Rattle.workers.proofs.closing.is_in.Goals as goal

pub returns : goal.returns
returns g c = λ met.
    answers_in g.J.Naming.plan c.seat.inside.ready.thread c.seat.inside.ready.step c.len.result c.thread.result c.seat.inside.seen c.args.seat.now c.args.log.now
    c.seat.view_is c.seat.invariant (subst (Begins c.seat.inside.seen) c.front.ensures (c.begins-2.ensures.exact.0 c.if-not-begins.false))
    c.len.ensures c.thread.ensures.thread (c.has_none_of.ensures.0 met)
