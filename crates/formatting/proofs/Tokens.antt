-- Pieces and tokens of one text.
use Rattle.std.proofs.Common.{◌≡◌, ℕ, List, ◌∷◌, ◌++◌, refl, sym, subst, Bool, true, false}
use Rattle.std.specs.Prelude.{◌||◌, ◌==◌}
use Rattle.std.specs.List.{list_all}
use Rattle.std.proofs.lemmas.Bool.{eqb-true}
use Rattle.source.specs.Tokens.{Tok}
use Rattle.source.specs.Texts.{is_white, is_in_line, IsLineEnd, IsGap, no_gap, white, AreTokens, at_end, token, IsNext, tok_at}
use Rattle.source.specs.Texts.{end_at, IsWithin, HasTokens}
use Rattle.source.specs.Texts as text
use Rattle.formatting.specs.declared.kind.PieceKind.TheVariants.{Comment}
use Rattle.formatting.specs.Pieces.{Piece, feed, item, is_blank, trimmed, ArePieces}
use Rattle.formatting.specs.Pieces as cut

pub blank_white : (b : ℕ) → is_blank b ≡ true → is_white b ≡ true
blank_white b h = turn (b == 32) (b == 9) (b == 13) (b == 10) h
  where
    turn : (p q r s : Bool) → (p || q || r) ≡ true → (p || q || r || s) ≡ true
    turn true q r s h = refl
    turn false true r s h = refl
    turn false false true s h = refl
    turn false false false s h = absurd cc

module _ (total : ℕ) where
  -- white space or a comment in front
  white_on : (b : ℕ) {t : List ℕ} {ts : List Tok} → is_white b ≡ true → AreTokens total t ts → AreTokens total (b ∷ t) ts
  white_on b w (at_end g) = at_end (white w g)
  white_on b w (token next small more) = token (record { gap = white w next.gap; no_comment = next.no_comment; unit = next.unit; longest = next.longest }) small more

  comment_on : (line : List ℕ) {t : List ℕ} {ts : List Tok} → list_all is_in_line line ≡ true → IsLineEnd t →
      AreTokens total t ts → AreTokens total (47 ∷ 47 ∷ line ++ t) ts
  comment_on line all e (at_end g) = at_end (text.comment line all e g)
  comment_on line all e (token next small more) = token (record { gap = text.comment line all e next.gap; no_comment = next.no_comment; unit = next.unit; longest = next.longest }) small more

  -- pieces have tokens
  pub tokens_of : {t : List ℕ} {ts : List Tok} {ps : List Piece} → ArePieces total t ts ps → AreTokens total t ts
  tokens_of cut.at_end = at_end no_gap
  tokens_of (cut.blank {b} w h) = white_on b (blank_white b w) (tokens_of h)
  tokens_of (cut.line_feed h) = white_on 10 refl (tokens_of h)
  tokens_of (cut.comment line all e h) = comment_on line all e (tokens_of h)
  tokens_of (cut.token no_comment unit longest small h) = token (record { gap = no_gap; no_comment = no_comment; unit = unit; longest = longest }) small (tokens_of h)

  -- a white byte is a blank or a line feed
  white_cases : (b : ℕ) {t : List ℕ} {ts : List Tok} {ps : List Piece} → is_white b ≡ true → ArePieces total t ts ps →
      (qs : List Piece) × ArePieces total (b ∷ t) ts qs
  white_cases b {t} {ts} {ps} w h = turn (is_blank b) refl
    where
      line : (t : Bool) → (b == 10) ≡ t → is_blank b ≡ false → (is_blank b || t) ≡ true → t ≡ true
      line true e f w = refl
      line false e f w = absurd cc

      turn : (t' : Bool) → is_blank b ≡ t' → (qs : List Piece) × ArePieces total (b ∷ t) ts qs
      turn true e = (ps, cut.blank e h)
      turn false e = (
        feed ∷ ps,
        subst (λ (c : ℕ). ArePieces total (c ∷ t) ts (feed ∷ ps)) (sym (eqb-true b 10 (line (b == 10) refl e w))) (cut.line_feed h),
      )

  gap_pieces : {t rest : List ℕ} {ts : List Tok} {ps : List Piece} → IsGap t rest → ArePieces total rest ts ps →
      (qs : List Piece) × ArePieces total t ts qs
  gap_pieces {ps = ps} no_gap h = (ps, h)
  gap_pieces (white {b} w g) h = let more = gap_pieces g h in white_cases b w more.1
  gap_pieces (text.comment line all e g) h = let more = gap_pieces g h in (item Comment (trimmed (47 ∷ 47 ∷ line)) ∷ more.0, cut.comment line all e more.1)

  -- tokens have pieces
  pub pieces_of : {t : List ℕ} {ts : List Tok} → AreTokens total t ts → (ps : List Piece) × ArePieces total t ts ps
  pieces_of (at_end g) = gap_pieces g cut.at_end
  pieces_of (token {text = t} {bytes} {rest} {k} {ts} next small more) =
      let h = pieces_of more in
      gap_pieces next.gap (cut.token {bytes = bytes} {rest = rest} {k = k} next.no_comment next.unit next.longest small h.1)
