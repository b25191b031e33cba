use Rattle.std.proofs.Common.{◌≡◌, List, length, sym, ap, ◌∙◌, subst, arith}
use Rattle.source.specs.Tokens.{Tok}
use Rattle.formatting.specs.Layout.{START, laid}
use Rattle.formatting.specs.Pieces.{Piece, HasPieces}
use Rattle.formatting.proofs.Tokens.{tokens_of}
use Rattle.formatting.proofs.Uniqueness.{same_pieces}
use Rattle.formatting.proofs.laws.one_layout.Goals as goal

pub returns : goal.returns
returns c = λ text a b g h.
    let same : g.tokens ≡ h.tokens = c.one_list.ensures text g.tokens h.tokens (tokens_of (length text) g.has_pieces) (tokens_of (length text) h.has_pieces) in
    let other : HasPieces text g.tokens h.pieces = subst (λ (ts : List Tok). HasPieces text ts h.pieces) (sym same) h.has_pieces in
    g.is_laid ∙ ap (λ (l : List Piece). laid START 0 l) (same_pieces (length text) g.has_pieces h.pieces other (omega arith)) ∙ sym h.is_laid
