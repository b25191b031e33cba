use Rattle.std.proofs.Common.{length, sym, ◌∙◌, subst}
use Rattle.formatting.specs.Layout.{START}
use Rattle.formatting.specs.Pieces.{ArePieces}
use Rattle.formatting.proofs.Reading.{tidied, laid_again, laid_back}
use Rattle.formatting.proofs.laws.formatted_twice.Goals as goal

pub returns : goal.returns
returns c = λ text out h.
    let back = laid_back (length text) (length out) h.has_pieces START 0 in record {
      tokens = back.tokens;
      pieces = tidied START 0 h.pieces;
      has_pieces = subst (λ l. ArePieces (length out) l back.tokens (tidied START 0 h.pieces)) (sym h.is_laid) back.pieces;
      is_laid = h.is_laid ∙ sym (laid_again START 0 h.pieces);
    }
