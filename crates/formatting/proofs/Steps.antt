-- The pieces of a text are printed one after the other.
use Rattle.std.proofs.Common.{◌≡◌, ℕ, suc, ◌+◌, ◌-◌, ◌<◌, ◌≤◌, true, false, List, [], ◌∷◌, ◌++◌, length, take, drop}
use Rattle.std.proofs.Common.{get_or, refl, sym, ap, ◌∙◌, subst, arith, append_assoc, length-append}
use Rattle.std.specs.Prelude.{slice_index, ◌==◌}
use Rattle.std.proofs.lemmas.Bool.{and_parts, eqb-true}
use Rattle.std.proofs.lemmas.List.{take_at, drop_at}
use Rattle.lexer.specs.Working.Reading.{run_of, after_run}
use Rattle.source.specs.Tokens.{Tok}
use Rattle.source.specs.Texts.{is_in_line, BeginsComment, HasTokens, tok_at}
use Rattle.formatting.specs.declared.kind.PieceKind.{PieceKind}
use Rattle.formatting.specs.declared.kind.PieceKind.TheVariants.{Comment}
use Rattle.formatting.specs.declared.state.LayoutState.{LayoutState}
use Rattle.formatting.specs.Kinds.{kind_of}
use Rattle.formatting.specs.Pieces.{Piece, feed, item, is_blank, trimmed, ArePieces, HasPieces}
use Rattle.formatting.specs.Pieces as cut
use Rattle.formatting.specs.Layout.{START, lines, gap, behind, ending, laid}
use Rattle.formatting.specs.Formatted.{IsFormatted}
use Rattle.formatting.specs.Working.Cutting.{begins_comment}
use Rattle.formatting.proofs.Cuts.{run_parts}
use Rattle.formatting.proofs.Tokens.{pieces_of}
use Rattle.formatting.proofs.Peeled.{behind_first, in_front, un_end, un_blank, un_feed, un_comment, Taken, un_token}

-- what was printed of a text, of which these bytes and tokens are left
pub record Progress (text rest : List ℕ) (ts : List Tok) (out : List ℕ) (s : LayoutState) (found : ℕ) : Type 0 where
  pub tokens : List Tok
  pub all : List Piece
  pub has : HasPieces text tokens all
  pub left : List Piece
  pub at : ArePieces (length text) rest ts left
  pub so_far : out ++ laid s found left ≡ laid START 0 all
  pub few : s.depth + s.inline + length rest ≤ length text
  pub few_feeds : found + length rest ≤ length text

pub begun : (text : List ℕ) (ts : List Tok) → HasTokens text ts → Progress text text ts [] START 0
begun text ts h =
    let p = pieces_of (length text) h in
    record { tokens = ts; all = p.0; has = p.1; left = p.0; at = p.1; so_far = refl; few = omega arith; few_feeds = omega arith }

-- a comment has bytes
pub line_some : (text : List ℕ) → begins_comment text ≡ true → length (after_run is_in_line text) < length text
line_some [] e = absurd cc
line_some (a ∷ []) e = absurd cc
line_some (a ∷ b ∷ bs) e =
    let q = run_parts is_in_line bs in
    let h = and_parts (a == 47) (b == 47) e in
    let t : after_run is_in_line (a ∷ b ∷ bs) ≡ after_run is_in_line bs = rw (eqb-true a 47 h.0, eqb-true b 47 h.1) refl in
    omega (arith, ap length t, ap length q, length-append (run_of is_in_line bs) (after_run is_in_line bs))

module _ {text rest : List ℕ} {ts : List Tok} {out : List ℕ} {s : LayoutState} {found : ℕ} (p : Progress text rest ts out s found) where
  pub ended : rest ≡ [] → IsFormatted text (out ++ ending s.has_begun)
  ended e = record {
    tokens = p.tokens;
    pieces = p.all;
    has_pieces = p.has;
    is_laid = ap (λ (l : List Piece). out ++ laid s found l) (sym (un_end (length text) p.at e)) ∙ p.so_far;
  }

  module _ (le : 1 ≤ length rest) where
    pub blank_step : is_blank (get_or rest 0 0) ≡ true → Progress text (behind_first rest) ts out s found
    blank_step w = record {
      tokens = p.tokens;
      all = p.all;
      has = p.has;
      left = p.left;
      at = un_blank (length text) p.at (get_or rest 0 0) (behind_first rest) (in_front rest le) w;
      so_far = p.so_far;
      few = let h = p.few in omega (arith, ap length (in_front rest le));
      few_feeds = let h = p.few_feeds in omega (arith, ap length (in_front rest le));
    }

    pub feed_step : get_or rest 0 0 ≡ 10 → Progress text (behind_first rest) ts out s (suc found)
    feed_step e =
        let q = un_feed (length text) p.at (behind_first rest) (in_front rest le ∙ ap (λ (b : ℕ). b ∷ behind_first rest) e) in
        record {
          tokens = p.tokens;
          all = p.all;
          has = p.has;
          left = q.0;
          at = q.2;
          so_far = ap (λ (l : List Piece). out ++ laid s found l) (sym q.1) ∙ p.so_far;
          few = let h = p.few in omega (arith, ap length (in_front rest le));
          few_feeds = let h = p.few_feeds in omega (arith, ap length (in_front rest le));
        }

  -- a token or a comment
  item_step : (k : PieceKind) (bytes after : List ℕ) (us : List Tok) (qs : List Piece) → p.left ≡ item k bytes ∷ qs →
      ArePieces (length text) after us qs → length after < length rest →
      (new : List ℕ) (next : LayoutState) → new ≡ out ++ gap s k (slice_index bytes 0) (lines s k found) ++ bytes →
      next ≡ behind s k (slice_index bytes 0) (lines s k found) → next.depth + next.inline ≤ s.depth + s.inline + 1 →
      Progress text after us new next 0
  item_step k bytes after us qs e at less new next is state few = record {
    tokens = p.tokens;
    all = p.all;
    has = p.has;
    left = qs;
    at = at;
    so_far =
        let g : List ℕ = gap s k (slice_index bytes 0) (lines s k found) in
        let X : List ℕ = laid (behind s k (slice_index bytes 0) (lines s k found)) 0 qs in
        ap (λ (l : List ℕ). l ++ laid next 0 qs) is
        ∙ ap (λ (t : LayoutState). (out ++ g ++ bytes) ++ laid t 0 qs) state
        ∙ ap (λ (l : List ℕ). l ++ X) (append_assoc out g bytes)
        ∙ append_assoc out (g ++ bytes) X
        ∙ ap (λ (l : List Piece). out ++ laid s found l) (sym e)
        ∙ p.so_far;
    few = let h = p.few in omega arith;
    few_feeds = let h = p.few_feeds in omega arith;
  }

  pub comment_step : begins_comment rest ≡ true → (bytes after new : List ℕ) (next : LayoutState) →
      bytes ≡ trimmed (run_of is_in_line rest) → after ≡ after_run is_in_line rest →
      new ≡ out ++ gap s Comment (slice_index bytes 0) (lines s Comment found) ++ bytes →
      next ≡ behind s Comment (slice_index bytes 0) (lines s Comment found) → next.depth + next.inline ≤ s.depth + s.inline + 1 →
      Progress text after ts new next 0
  comment_step e bytes after new next b a is state few =
      let q = un_comment (length text) p.at e in
      item_step Comment bytes after ts q.0 (q.1 ∙ ap (λ (l : List ℕ). item Comment l ∷ q.0) (sym b)) (subst (λ (l : List ℕ). ArePieces (length text) l ts q.0) (sym a) q.2)
      (let h = line_some rest e in omega (arith, ap length a)) new next is state few

  -- the token's bytes
  module _ {t : Tok} {others : List Tok} (same : ts ≡ t ∷ others) (le : 1 ≤ length rest) (w : is_blank (get_or rest 0 0) ≡ false)
      (f : get_or rest 0 0 ≡ 10 → ⊥) (c : BeginsComment rest → ⊥) where
    pub taken : Taken (length text) rest ts p.left
    taken = un_token (length text) p.at (get_or rest 0 0) (behind_first rest) (in_front rest le) w f c

    is_token : t ≡ tok_at (length text) taken.bytes taken.rest taken.k
    is_token = let q : t ∷ others ≡ tok_at (length text) taken.bytes taken.rest taken.k ∷ taken.us = sym same ∙ taken.tokens in cc

    are_others : others ≡ taken.us
    are_others = let q : t ∷ others ≡ tok_at (length text) taken.bytes taken.rest taken.k ∷ taken.us = sym same ∙ taken.tokens in cc

    width_is : t.span.end - t.span.start ≡ length taken.bytes
    width_is =
        let e : t.span.end ≡ length text - length taken.rest = ap (λ (t : Tok). t.span.end) is_token in
        let b : t.span.start ≡ length text - length (taken.bytes ++ taken.rest) = ap (λ (t : Tok). t.span.start) is_token in
        let h = p.few in
        omega (arith, e, b, ap length taken.is, length-append taken.bytes taken.rest)

    pub width_within : t.span.end - t.span.start ≤ length rest
    width_within = omega (arith, width_is, ap length taken.is, length-append taken.bytes taken.rest)

    pub bytes_are : take (t.span.end - t.span.start) rest ≡ taken.bytes
    bytes_are = ap (λ n. take n rest) width_is ∙ ap (λ (l : List ℕ). take (length taken.bytes) l) taken.is ∙ take_at taken.bytes taken.rest (length taken.bytes) refl

    rest_is : drop (t.span.end - t.span.start) rest ≡ taken.rest
    rest_is = ap (λ n. drop n rest) width_is ∙ ap (λ (l : List ℕ). drop (length taken.bytes) l) taken.is ∙ drop_at taken.bytes taken.rest (length taken.bytes) refl

    pub some_bytes : 0 < length (take (t.span.end - t.span.start) rest)
    some_bytes = let h = taken.some in omega (arith, ap length bytes_are)

    pub less : length (drop (t.span.end - t.span.start) rest) < length rest
    less = let h = taken.some in omega (arith, ap length rest_is, ap length taken.is, length-append taken.bytes taken.rest)

    kind_is : kind_of t.kind ≡ kind_of taken.k
    kind_is = ap (λ (t : Tok). kind_of t.kind) is_token

    pub token_step : (k : PieceKind) (bytes after new : List ℕ) (next : LayoutState) → k ≡ kind_of t.kind →
        bytes ≡ take (t.span.end - t.span.start) rest → after ≡ drop (t.span.end - t.span.start) rest →
        new ≡ out ++ gap s k (slice_index bytes 0) (lines s k found) ++ bytes →
        next ≡ behind s k (slice_index bytes 0) (lines s k found) → next.depth + next.inline ≤ s.depth + s.inline + 1 →
        Progress text after others new next 0
    token_step k bytes after new next kind b a is state few =
        let ks : kind_of taken.k ≡ k = sym kind_is ∙ sym kind in
        let bs : taken.bytes ≡ bytes = sym bytes_are ∙ sym b in
        item_step k bytes after others taken.qs
        (taken.pieces ∙ ap (λ (k : PieceKind). item k taken.bytes ∷ taken.qs) ks ∙ ap (λ (l : List ℕ). item k l ∷ taken.qs) bs)
        (subst (λ (us : List Tok). ArePieces (length text) after us taken.qs) (sym are_others) (subst (λ (l : List ℕ). ArePieces (length text) l taken.us taken.qs) (sym (a ∙ rest_is)) taken.more))
        (let h = less in omega (arith, ap length a)) new next is state few

pub no_tokens : (total : ℕ) (rest : List ℕ) (ps : List Piece) → ArePieces total rest [] ps → ⊥
no_tokens total rest ps h = none h refl
  where
    none : {rest : List ℕ} {ts : List Tok} {ps : List Piece} → ArePieces total rest ts ps → ts ≡ [] → ⊥
    none cut.at_end e = absurd cc
    none (cut.blank w h) e = none h e
    none (cut.line_feed h) e = none h e
    none (cut.comment line all end h) e = none h e
    none (cut.token nc unit longest small h) e = absurd cc

pub none_left : {A : Type 0} (xs : List A) → length xs < 1 → xs ≡ []
none_left [] e = refl
none_left (x ∷ xs) e = absurd (omega arith)
