use Rattle.std.proofs.Common.{◌≡◌, List, length, map, sym, subst, arith}
use Rattle.source.specs.Tokens.{Tok}
use Rattle.syntax.specs.Faults.{HasRightTree}
use Rattle.formatting.specs.Layout.{START}
use Rattle.formatting.specs.Pieces.{ArePieces}
use Rattle.formatting.proofs.Reading.{tidied, laid_back}
use Rattle.formatting.proofs.Tokens.{tokens_of}
use Rattle.formatting.proofs.Moved.{moved, m_decl, to, moved_to, right_moved, tokens_rise}
use Rattle.formatting.proofs.laws.keeps_program.Goals as goal

pub returns : goal.returns
returns c = λ text out h g small.
    let back = laid_back (length text) (length out) g.has_pieces START 0 in
    let read : ArePieces (length out) out back.tokens (tidied START 0 g.pieces) = subst (λ l. ArePieces (length out) l back.tokens (tidied START 0 g.pieces)) (sym g.is_laid) back.pieces in
    let same : h.tokens ≡ g.tokens = c.one_list.ensures text h.tokens g.tokens h.has_tokens (tokens_of (length text) g.has_pieces) in
    let tree : HasRightTree g.tokens h.tree = subst (λ (ts : List Tok). HasRightTree ts h.tree) same h.has_tree in
    let f = to g.tokens back.tokens in
    let are : moved f g.tokens ≡ back.tokens = moved_to g.tokens back.tokens (tokens_rise (length text) g.has_pieces (omega arith)) back.same in
    record {
      within = small;
      tokens = back.tokens;
      tree = map (m_decl f) h.tree;
      has_tokens = tokens_of (length out) read;
      has_tree = subst (λ (ts : List Tok). HasRightTree ts (map (m_decl f) h.tree)) are (right_moved f h.tree g.tokens tree);
    }
