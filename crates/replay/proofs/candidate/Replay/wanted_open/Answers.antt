use Rattle.std.proofs.Common.{◌∙◌, ap}
use Rattle.std.specs.Option.{option_map}
use Rattle.replay.specs.declared.progress.Stage.TheVariants.{Calls}
use Rattle.replay.proofs.Lacking.{first_lacks}
use Rattle.replay.proofs.Steps.{none_due, closed_at}
use Rattle.replay.proofs.candidate.Replay.wanted_open.Goals as goal

pub returns-in-Some : goal.returns-in-Some
returns-in-Some c reader lines first is none = (
  c.requires.anyone,
  record {
    none_due = none_due c.args.self.now.program.now c.args.at.now reader is c.requires.stage c.requires.none_due;
    still_open = closed_at c.args.self.now.program.now c.args.at.now reader is Calls c.requires.stage;
  },
  none,
  first_lacks c.args.self.now.format c.args.self.now.program.now reader.order _ lines c.lack.result (first ∙ ap (option_map (λ text. text.now)) c.in-Some.is) (c.lack.ensures reader is),
)
