use Rattle.std.specs.Prelude.{◌-◌, get_or, List, length}
use Rattle.std.proofs.Common.{sym, ap, ◌∙◌, arith}
use Rattle.locks.specs.declared.lock.Lock.{Lock}
use Rattle.worlds.specs.Asking.{insert_all}
use Rattle.runner.specs.Working.Asked.{locks_at}
use Rattle.runner.proofs.Asked.{has_room, one_more, at_end}
use Rattle.runner.proofs.Taken.{taken_at_first}
use Rattle.runner.proofs.asker.Asker.ask.Goals as goal

pub take-requires-clause-room : goal.take-requires-clause-room
take-requires-clause-room c =
    let a = c.args.self.now in
    let left = c.loop-left.left in
    let room = has_room a.program.now a.section a.machine.now.locks a.machine.now.machine.locals c.args.list.now left (omega arith) (omega arith) in
    let locks = locks_at a.program.now a.section a.machine.now.machine.locals (get_or c.args.list.now (left - 1) 0) in
    let e = ap (λ (ps : List Lock). length (insert_all a.program.now.ranks a.machine.now.locks locks ps)) c.loop-left.invariant.1 in
    omega (arith, room, e, c.requires.room, c.loop-left.invariant.2)

pub loop-left-init : goal.loop-left-init
loop-left-init c =
    let a = c.args.self.now in (
      omega arith,
      c.requires.none ∙ sym (at_end a.program.now a.section a.machine.now.locks a.machine.now.machine.locals c.args.list.now),
      omega arith,
      taken_at_first a.program.now a.section a.machine.now.locks c.args.pending.now.locks a.taken c.requires.none c.requires.taken,
    )

pub loop-left-preserved : goal.loop-left-preserved
loop-left-preserved c =
    let a = c.args.self.now in
    let left = c.loop-left.left in
    let locks = locks_at a.program.now a.section a.machine.now.machine.locals (get_or c.args.list.now (left - 1) 0) in (
      omega (arith, c.loop-left.invariant.0),
      c.take.ensures.locks
          ∙ ap (insert_all a.program.now.ranks a.machine.now.locks locks) c.loop-left.invariant.1
          ∙ sym (one_more a.program.now a.section a.machine.now.locks a.machine.now.machine.locals c.args.list.now left c.loop-left-test.true c.loop-left.invariant.0),
      omega (arith, c.loop-left.invariant.2, c.take.ensures.room),
      c.take.ensures.taken c.loop-left.invariant.3,
    )
