use Rattle.std.proofs.Common.{◌≡◌, ◌∙◌, ap}
use Rattle.lsp_texts.specs.Positions.{position_of}
use Rattle.lsp_texts.specs.Theory.Ends.{at_most}
use Rattle.lsp_texts.proofs.walking.Walker.position_of.Goals as goal
use Rattle.lsp_texts.proofs.walking.Walker.position_of.Goals.{then-to-self, else-to-self}

pub returns-clause-position : goal.returns-clause-position
returns-clause-position c =
    let new = c.advance.new.self in
    let text = c.args.self.now.text.now in
    let same : new.text.now ≡ text = elim c.if-to-self.branch [ then-to-self w ↦ cc | else-to-self w ↦ cc ] in
    new.is ∙ ap (λ t. position_of t new.at) same ∙ ap (position_of text) c.advance.ensures.moved ∙ at_most text c.args.at _ c.min-to.ensures
