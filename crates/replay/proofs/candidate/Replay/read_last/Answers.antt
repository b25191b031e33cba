use Rattle.std.proofs.Common.{◌∙◌, sym, refl}
use Rattle.replay.specs.declared.progress.Stage.TheVariants.{Cells}
use Rattle.replay.proofs.Naming.{closed_names_none}
use Rattle.replay.proofs.Steps.{reads_so, closed_at, last_came}
use Rattle.replay.proofs.candidate.Replay.read_last.Goals as goal

pub returns-clause-reads : goal.returns-clause-reads
returns-clause-reads c reader is =
    last_came c.args.self.now.turns c.args.self.now.callers c.args.self.now.format c.args.self.now.program.now c.args.at.now reader c.args.number c.args.line.now is c.requires.stage c.requires.past
    (reads_so c.args.line.now _ (sym c.is.ensures ∙ c.if-not-is.false))

pub returns-then-not-is-clause-leaves : goal.returns-then-not-is-clause-leaves
returns-then-not-is-clause-leaves c written = record {
  same = refl;
  names = λ reader is.
      closed_names_none c.args.self.now.callers c.args.self.now.format c.args.self.now.program.now reader c.args.line.now
      (closed_at c.args.self.now.program.now c.args.at.now reader is (Cells c.args.number) c.requires.stage);
}
