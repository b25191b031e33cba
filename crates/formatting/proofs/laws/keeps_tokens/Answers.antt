use Rattle.std.proofs.Common.{length, sym, subst}
use Rattle.formatting.specs.Layout.{START}
use Rattle.formatting.specs.Pieces.{ArePieces}
use Rattle.formatting.proofs.Reading.{tidied, items_stay, laid_back}
use Rattle.formatting.proofs.Tokens.{tokens_of}
use Rattle.formatting.proofs.laws.keeps_tokens.Goals as goal

pub returns : goal.returns
returns c = λ text out h.
    let back = laid_back (length text) (length out) h.has_pieces START 0 in
    let read : ArePieces (length out) out back.tokens (tidied START 0 h.pieces) = subst (λ l. ArePieces (length out) l back.tokens (tidied START 0 h.pieces)) (sym h.is_laid) back.pieces in record {
      tokens = h.tokens;
      others = back.tokens;
      pieces = h.pieces;
      other_pieces = tidied START 0 h.pieces;
      has_pieces = h.has_pieces;
      other_has_pieces = read;
      has_tokens = tokens_of (length text) h.has_pieces;
      other_has_tokens = tokens_of (length out) read;
      same_tokens = back.same;
      same_items = items_stay START 0 h.pieces;
    }
