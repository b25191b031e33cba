use Rattle.std.proofs.Common.{refl}
use Rattle.replay.proofs.Findings.{other_no_call}
use Rattle.replay.proofs.Naming.{no_call_names_none}
use Rattle.replay.proofs.Steps.{none_due}
use Rattle.replay.proofs.candidate.Replay.read_told.Goals as goal

pub returns-in-None-clause-reads : goal.returns-in-None-clause-reads
returns-in-None-clause-reads c reader is =
    let never = rw c.in-None.is at c.in_ok-call.ensures.only in
    other_no_call c.args.self.now.turns c.args.self.now.callers c.args.self.now.format c.args.self.now.program.now reader c.args.line.now (none_due c.args.self.now.program.now c.args.at.now reader is c.requires.stage c.requires.none_due)
    c.requires.not_cells
    (λ call begun end next. never reader call begun end is next)

pub returns-in-None-clause-leaves : goal.returns-in-None-clause-leaves
returns-in-None-clause-leaves c =
    let never = rw c.in-None.is at c.in_ok-call.ensures.only in
    record {
      same = refl;
      names = λ reader is.
          no_call_names_none c.args.self.now.callers c.args.self.now.format c.args.self.now.program.now reader c.args.at.now c.args.line.now is never;
    }
