use Rattle.std.proofs.Common.{sym}
use Rattle.runner.proofs.Taken.{taken_already, taken_more}
use Rattle.runner.proofs.asker.Asker.take.Goals as goal

pub returns-then-is_taken-clause-locks : goal.returns-then-is_taken-clause-locks
returns-then-is_taken-clause-locks c =
    let a = c.args.self.now in
    sym (taken_already a.program.now a.section a.program.now.ranks a.machine.now.locks a.machine.now.machine.locals c.args.number
    c.args.pending.now.locks a.taken c.requires.taken (c.is_taken.ensures c.if-is_taken.true))

pub returns-clause-taken : goal.returns-clause-taken
returns-clause-taken c =
    let a = c.args.self.now in
    taken_more a.program.now a.section a.program.now.ranks a.machine.now.locks a.machine.now.machine.locals c.args.number
    c.args.pending.now.locks c.add.new.pending.locks c.args.taken.now c.noted.result c.add.ensures.locks c.noted.ensures
