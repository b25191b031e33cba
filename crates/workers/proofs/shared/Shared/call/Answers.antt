use Rattle.std.proofs.Common.{sym, subst}
use Rattle.runner.specs.Working.Opens.{ReadyOf}
use Rattle.workers.specs.Working.Within.{IsSeat, HasAnswer}
use Rattle.workers.specs.Answers.{as_call}
use Rattle.workers.proofs.Seats.{seat_after, gains, sees, all_below}
use Rattle.workers.proofs.shared.Shared.call.Goals as goal

pub invariant_of-seat : goal.invariant_of-seat
invariant_of-seat g c =
    let log = c.seat.inside.seen in
    let before : IsSeat g.J.Naming.plan c.take_out-ready.result.thread c.take_out-ready.result.step log =
    subst (λ (r : ReadyOf). IsSeat g.J.Naming.plan r.thread r.step log) (sym c.take_out-ready.ensures) c.seat.invariant in
    subst (λ (r : ReadyOf). IsSeat g.J.Naming.plan r.thread r.step c.run.new.seen) (sym c.put_back.ensures)
    (seat_after g.J.Naming.plan (as_call c.args.section c.args.arguments.now) c.take_out-ready.result c.in-Ok.ready c.in-Ok.done
    c.seat.inside.seen c.run.new.seen before c.in-Ok.ensures.answer)

pub returns-in-Ok-clause-gained : goal.returns-in-Ok-clause-gained
returns-in-Ok-clause-gained g c =
    let call = as_call c.args.section c.args.arguments.now in
    let old = c.seat.inside.seen in
    let answered : HasAnswer g.J.Naming.plan call c.seat.inside.ready old c.put_back.new.place c.in-Ok.done c.run.new.seen =
    subst (λ (r : ReadyOf). HasAnswer g.J.Naming.plan call c.seat.inside.ready old r c.in-Ok.done c.run.new.seen) (sym c.put_back.ensures)
    (subst (λ (r : ReadyOf). HasAnswer g.J.Naming.plan call r old c.in-Ok.ready c.in-Ok.done c.run.new.seen) c.take_out-ready.ensures
    c.in-Ok.ensures.answer) in
    gains g.J.Naming.plan call c.seat.inside.ready c.put_back.new.place c.in-Ok.done c.args.seat.now old c.run.new.seen c.seat.view_is answered

pub returns-in-Ok-clause-above : goal.returns-in-Ok-clause-above
returns-in-Ok-clause-above g c =
    let call = as_call c.args.section c.args.arguments.now in
    let old = c.seat.inside.seen in
    let answered : HasAnswer g.J.Naming.plan call c.seat.inside.ready old c.put_back.new.place c.in-Ok.done c.run.new.seen =
    subst (λ (r : ReadyOf). HasAnswer g.J.Naming.plan call c.seat.inside.ready old r c.in-Ok.done c.run.new.seen) (sym c.put_back.ensures)
    (subst (λ (r : ReadyOf). HasAnswer g.J.Naming.plan call r old c.in-Ok.ready c.in-Ok.done c.run.new.seen) c.take_out-ready.ensures
    c.in-Ok.ensures.answer) in
    all_below g.J.Naming.plan call c.seat.inside.ready c.put_back.new.place c.in-Ok.done c.args.seat.now old c.run.new.seen c.seat.view_is answered

pub returns-in-Ok-clause-seen : goal.returns-in-Ok-clause-seen
returns-in-Ok-clause-seen g c =
    let call = as_call c.args.section c.args.arguments.now in
    let old = c.seat.inside.seen in
    let answered : HasAnswer g.J.Naming.plan call c.seat.inside.ready old c.put_back.new.place c.in-Ok.done c.run.new.seen =
    subst (λ (r : ReadyOf). HasAnswer g.J.Naming.plan call c.seat.inside.ready old r c.in-Ok.done c.run.new.seen) (sym c.put_back.ensures)
    (subst (λ (r : ReadyOf). HasAnswer g.J.Naming.plan call r old c.in-Ok.ready c.in-Ok.done c.run.new.seen) c.take_out-ready.ensures
    c.in-Ok.ensures.answer) in
    sees g.J.Naming.plan call c.seat.inside.ready c.put_back.new.place c.in-Ok.done c.args.seat.now old c.run.new.seen c.seat.view_is c.seat.invariant answered
