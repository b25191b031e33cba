use Rattle.std.proofs.lemmas.Result.{IfOk-weaker}
use Rattle.source.specs.Faults.{placed_text}
use Rattle.explanation.proofs.Lines.{take_within}
use Rattle.explanation.proofs.notes.Places.line.Goals as goal

pub returns : goal.returns
unfolding placed_text
returns c =
    IfOk-weaker c.line_at.result _ _
    (λ told is. rw (take_within c.args.start c.args.self.now.text.now) (rw (c.at-at.ensures.line, c.at-at.ensures.column, c.args.self.now.same) at is))
    c.line_at.ensures
