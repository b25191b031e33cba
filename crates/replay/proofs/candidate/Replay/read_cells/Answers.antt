use Rattle.std.proofs.Common.{◌∙◌, sym, refl}
use Rattle.std.proofs.lemmas.Bool.{false≢true}
use Rattle.replay.proofs.Naming.{cells_name_none}
use Rattle.replay.proofs.Steps.{cells_came, cells_otherwise}
use Rattle.replay.proofs.candidate.Replay.read_cells.Goals as goal

pub returns-then-not-all_called-clause-reads : goal.returns-then-not-all_called-clause-reads
returns-then-not-all_called-clause-reads c reader is =
    cells_otherwise c.args.self.now.turns c.args.self.now.callers c.args.self.now.format c.args.self.now.program.now c.args.at.now reader is c.requires.stage c.requires.none_due
    (λ full. false≢true (sym c.if-not-all_called.true ∙ c.all_called.ensures.1 full))

pub returns-clause-reads : goal.returns-clause-reads
returns-clause-reads c reader is =
    cells_came c.args.self.now.turns c.args.self.now.callers c.args.self.now.format c.args.self.now.program.now c.args.at.now reader is c.requires.stage c.requires.none_due (c.all_called.ensures.0 c.if-not-all_called.false)

pub returns-then-not-all_called-clause-leaves : goal.returns-then-not-all_called-clause-leaves
returns-then-not-all_called-clause-leaves c written =
    record { same = refl; names = λ reader is. cells_name_none c.args.self.now.callers c.args.self.now.format c.args.self.now.program.now reader }
