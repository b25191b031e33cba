use Rattle.std.proofs.Common.{◌≡◌, ◌∙◌, ◌+◌, Some, ap, sym}
use Rattle.std.specs.Prelude.{if◌then◌else◌}
use Rattle.lsp_texts.specs.Names.{depth_behind, word_at}
use Rattle.lsp_texts.specs.Declarations.{is_let, is_top}
use Rattle.lsp_texts.proofs.PlaceLemmas.{moves, chosen, unchosen}
use Rattle.lsp_texts.proofs.scopes.Place.behind.Goals as goal
use Rattle.lsp_texts.proofs.scopes.Place.behind.Goals.{then-is_top, else-is_top, then-is_let, else-is_let}

pub returns : goal.returns
returns c =
    let tokens = c.args.tokens.now in
    let at = c.args.at in
    let owner : c.if-is_top.owner ≡ (if is_top tokens at then Some at else c.args.self.owner) = elim c.if-is_top.branch [
      | then-is_top w ↦ chosen (is_top tokens at) _ _ _ (sym c.is_top.ensures ∙ w.if-is_top.true) w.owner-is
      | else-is_top w ↦ unchosen (is_top tokens at) _ _ _ (sym c.is_top.ensures ∙ w.if-is_top.false) w.owner-is
    ] in
    let bound : c.if-is_let.bound ≡ (if is_let (word_at tokens at) then Some (at + 1) else c.args.self.bound) = elim c.if-is_let.branch [
      | then-is_let w ↦ chosen (is_let (word_at tokens at)) _ _ _ (sym c.is_let.ensures ∙ w.if-is_let.true) w.bound-is
      | else-is_let w ↦ unchosen (is_let (word_at tokens at)) _ _ _ (sym c.is_let.ensures ∙ w.if-is_let.false) w.bound-is
    ] in
    moves tokens at c.args.self _ c.requires.place (c.depth_behind.ensures.depth ∙ ap (depth_behind c.args.self.depth) c.sign_at.ensures)
    c.depth_behind.ensures.more owner bound
