use Rattle.std.proofs.Common.{arith}
use Rattle.meaning.specs.Working.Execution.{state_of}
use Rattle.meaning.proofs.Leads.{stored_within, stored_past}
use Rattle.meaning.proofs.execution.Execution.store.Goals as goal

pub returns-clause-follows : goal.returns-clause-follows
returns-clause-follows c =
    stored_within c.args.local c.args.value (state_of c.args.self.now) (omega (arith, c.if-local-len.false, c.len.ensures, c.args.self.now.locals.ok.0))

pub returns-then-local-len-clause-follows : goal.returns-then-local-len-clause-follows
returns-then-local-len-clause-follows c =
    stored_past c.args.local c.args.value (state_of c.args.self.now) (omega (arith, c.if-local-len.true, c.len.ensures, c.args.self.now.locals.ok.0))
