-- A text has at most one list of pieces.
use Rattle.std.proofs.Common.{◌≡◌, ℕ, ◌-◌, ◌≤◌, Bool, true, false, List, [], ◌∷◌, ◌++◌, length, refl, sym, ap, ◌∙◌}
use Rattle.std.proofs.Common.{subst, arith, length-append}
use Rattle.source.specs.Tokens.{Lexeme, Tok}
use Rattle.source.specs.Texts.{is_white, tok_at}
use Rattle.formatting.specs.declared.kind.PieceKind.TheVariants.{Comment}
use Rattle.formatting.specs.Kinds.{kind_of}
use Rattle.formatting.specs.Pieces.{Piece, feed, item, is_blank, trimmed, ArePieces}
use Rattle.formatting.specs.Pieces as cut
use Rattle.formatting.proofs.Units.{unit_begins}
use Rattle.formatting.proofs.Tokens.{blank_white}
use Rattle.formatting.proofs.Peeled.{line_front, un_end, un_blank, un_feed, un_comment, Taken, un_token}

append_same : (a b r s : List ℕ) → a ++ r ≡ b ++ s → length r ≡ length s → (a ≡ b) × (r ≡ s)
append_same [] [] r s e l = (refl, e)
append_same [] (c ∷ b) r s e l = absurd (omega (arith, ap length e, length-append (c ∷ b) s))
append_same (c ∷ a) [] r s e l = absurd (omega (arith, ap length e, length-append (c ∷ a) r))
append_same (c ∷ a) (d ∷ b) r s e l =
    let same : c ≡ d = cc in
    let more : a ++ r ≡ b ++ s = cc in
    let h = append_same a b r s more l in
    (ap (λ (x : ℕ). x ∷ a) same ∙ ap (λ (l : List ℕ). d ∷ l) h.0, h.1)

no_blank : (b : ℕ) → is_white b ≡ false → is_blank b ≡ false
no_blank b w = turn (is_blank b) refl
  where
    turn : (t : Bool) → is_blank b ≡ t → is_blank b ≡ false
    turn true e = let f : is_white b ≡ true = blank_white b e in absurd cc
    turn false e = e

module _ (total : ℕ) where
  same_token : (bytes rest : List ℕ) (k : Lexeme) (ts : List Tok) (ps qs : List Piece) → length (bytes ++ rest) ≤ total →
      (t : Taken total (bytes ++ rest) (tok_at total bytes rest k ∷ ts) qs) →
      ((us : List Piece) → ArePieces total rest ts us → length rest ≤ total → ps ≡ us) →
      item (kind_of k) bytes ∷ ps ≡ qs
  same_token bytes rest k ts ps qs le t on =
      let tok : tok_at total bytes rest k ≡ tok_at total t.bytes t.rest t.k = let e = t.tokens in cc in
      let others : ts ≡ t.us = let e = t.tokens in cc in
      let end : total - length rest ≡ total - length t.rest = ap (λ (t : Tok). t.span.end) tok in
      let kind : k ≡ t.k = ap (λ (t : Tok). t.kind) tok in
      let same : length rest ≡ length t.rest = omega (arith, end, le, ap length t.is, length-append bytes rest, length-append t.bytes t.rest) in
      let parts = append_same bytes t.bytes rest t.rest t.is same in
      let more : ArePieces total rest ts t.qs = subst (λ (l : List ℕ). ArePieces total l ts t.qs) (sym parts.1) (subst (λ (l : List Tok). ArePieces total t.rest l t.qs) (sym others) t.more) in
      ap (λ (l : List ℕ). item (kind_of k) l ∷ ps) parts.0
      ∙ ap (λ (k : Lexeme). item (kind_of k) t.bytes ∷ ps) kind
      ∙ ap (λ (l : List Piece). item (kind_of t.k) t.bytes ∷ l) (on t.qs more (omega (arith, le, length-append bytes rest)))
      ∙ sym t.pieces

  pub same_pieces : {text : List ℕ} {ts : List Tok} {ps : List Piece} → ArePieces total text ts ps → (qs : List Piece) →
      ArePieces total text ts qs → length text ≤ total → ps ≡ qs
  same_pieces cut.at_end qs g le = sym (un_end total g refl)
  same_pieces (cut.blank {b} {text} w h) qs g le = same_pieces h qs (un_blank total g b text refl w) (omega arith)
  same_pieces (cut.line_feed {text} {ts} {ps} h) qs g le =
      let more = un_feed total g text refl in
      ap (λ (l : List Piece). feed ∷ l) (same_pieces h more.0 more.2 (omega arith)) ∙ sym more.1
  same_pieces (cut.comment line {text} {ts} {ps} all end h) qs g le =
      let more = un_comment total g refl in
      let parts = line_front line text all end in
      ap (λ (l : List Piece). item Comment (trimmed (47 ∷ 47 ∷ line)) ∷ l) (same_pieces h more.0 (subst (λ (l : List ℕ). ArePieces total l ts more.0) parts.1 more.2) (omega (arith, le, length-append line text)))
      ∙ ap (λ (l : List ℕ). item Comment (trimmed (47 ∷ 47 ∷ l)) ∷ more.0) (sym parts.0)
      ∙ sym more.1
  same_pieces (cut.token {bytes} {rest} {k} {ts} {ps} nc unit longest small h) qs g le =
      let s = unit_begins unit in
      let is : bytes ++ rest ≡ s.first ∷ (s.more ++ rest) = ap (λ (l : List ℕ). l ++ rest) s.is in
      let no_feed : s.first ≡ 10 → ⊥ = λ e. let w : is_white 10 ≡ false = ap is_white (sym e) ∙ s.no_white in absurd cc in
      same_token bytes rest k ts ps qs le (un_token total g s.first (s.more ++ rest) is (no_blank s.first s.no_white) no_feed nc) (λ us more less. same_pieces h us more less)
