-- The first piece of a text, and the text after it.
use Rattle.std.proofs.Common.{◌≡◌, ℕ, ◌-◌, ◌<◌, ◌≤◌, true, false, cond, List, [], ◌∷◌, ◌++◌, length, take, drop}
use Rattle.std.proofs.Common.{get_or, refl, sym, ap, ◌∙◌, subst, arith}
use Rattle.std.specs.Prelude.{◌==◌}
use Rattle.std.specs.List.{list_all}
use Rattle.std.proofs.lemmas.Bool.{and_parts, eqb-true}
use Rattle.std.proofs.lemmas.List.{take_all}
use Rattle.lexer.specs.Working.Reading.{run_of, after_run}
use Rattle.source.specs.Tokens.{Lexeme, Tok}
use Rattle.source.specs.Texts.{is_white, is_in_line, IsLineEnd, BeginsComment, IsUnit, tok_at}
use Rattle.formatting.specs.declared.kind.PieceKind.TheVariants.{Comment}
use Rattle.formatting.specs.Kinds.{kind_of}
use Rattle.formatting.specs.Pieces.{Piece, feed, item, is_blank, trimmed, ArePieces}
use Rattle.formatting.specs.Pieces as cut
use Rattle.formatting.specs.Working.Cutting.{begins_comment}
use Rattle.formatting.proofs.Units.{unit_begins}
use Rattle.formatting.proofs.Tokens.{blank_white}

abbrev pub behind_first : List ℕ → List ℕ
behind_first bs = take (length bs - 1) (drop 1 bs)

pub in_front : (bs : List ℕ) → 1 ≤ length bs → bs ≡ get_or bs 0 0 ∷ behind_first bs
in_front [] le = absurd (omega (arith, le))
in_front (b ∷ bs) le = ap (λ (l : List ℕ). b ∷ l) (sym (take_all (length (b ∷ bs) - 1) bs (omega arith)))

comment_is : (text : List ℕ) → begins_comment text ≡ true → (more : List ℕ) × (text ≡ 47 ∷ 47 ∷ more)
comment_is [] e = absurd cc
comment_is (a ∷ []) e = absurd cc
comment_is (a ∷ b ∷ bs) e =
    let p = and_parts (a == 47) (b == 47) e in
    (bs, ap (λ (c : ℕ). c ∷ b ∷ bs) (eqb-true a 47 p.0) ∙ ap (λ (c : ℕ). 47 ∷ c ∷ bs) (eqb-true b 47 p.1))

pub no_comment : (text : List ℕ) → begins_comment text ≡ false → BeginsComment text → ⊥
no_comment text e c = let h : begins_comment text ≡ true = ap begins_comment c.1 in absurd cc

-- a line and what follows it
pub line_front : (line text : List ℕ) → list_all is_in_line line ≡ true → IsLineEnd text →
    (run_of is_in_line (line ++ text) ≡ line) × (after_run is_in_line (line ++ text) ≡ text)
line_front [] [] h e = (refl, refl)
line_front [] (b ∷ text) h e = (
  ap (λ (c : ℕ). run_of is_in_line (c ∷ text)) e,
  ap (λ (c : ℕ). cond (is_in_line c) (after_run is_in_line text) (b ∷ text)) e,
)
line_front (b ∷ line) text h e =
    let p = and_parts (is_in_line b) (list_all is_in_line line) h in
    let more = line_front line text p.1 e in
    (rw p.0 (ap (λ (l : List ℕ). b ∷ l) more.0), rw p.0 more.1)

module _ (total : ℕ) where
  first_of_token : (bytes rest : List ℕ) (k : Lexeme) (b : ℕ) (more : List ℕ) → IsUnit bytes k →
      bytes ++ rest ≡ b ∷ more → is_white b ≡ false
  first_of_token bytes rest k b more u e =
      let s = unit_begins u in
      let q : s.first ∷ (s.more ++ rest) ≡ b ∷ more = sym (ap (λ (l : List ℕ). l ++ rest) s.is) ∙ e in
      let same : s.first ≡ b = cc in
      ap is_white (sym same) ∙ s.no_white

  pub un_end : {text : List ℕ} {ts : List Tok} {ps : List Piece} → ArePieces total text ts ps → text ≡ [] → ps ≡ []
  un_end cut.at_end e = refl
  un_end (cut.blank w h) e = absurd cc
  un_end (cut.line_feed h) e = absurd cc
  un_end (cut.comment line all end h) e = absurd cc
  un_end (cut.token {bytes} {rest} nc unit longest small h) e =
      let s = unit_begins unit in
      let q : s.first ∷ (s.more ++ rest) ≡ [] = sym (ap (λ (l : List ℕ). l ++ rest) s.is) ∙ e in
      absurd cc

  pub un_blank : {text : List ℕ} {ts : List Tok} {ps : List Piece} → ArePieces total text ts ps → (b : ℕ) (more : List ℕ) →
      text ≡ b ∷ more → is_blank b ≡ true → ArePieces total more ts ps
  un_blank cut.at_end b more e w = absurd cc
  un_blank (cut.blank {b = c} {text} {ts} {ps} v h) b more e w = let same : text ≡ more = cc in subst (λ (l : List ℕ). ArePieces total l ts ps) same h
  un_blank (cut.line_feed h) b more e w = let same : 10 ≡ b = cc in let f : is_blank 10 ≡ true = ap is_blank same ∙ w in absurd cc
  un_blank (cut.comment line all end h) b more e w = let same : 47 ≡ b = cc in let f : is_blank 47 ≡ true = ap is_blank same ∙ w in absurd cc
  un_blank (cut.token {bytes} {rest} {k} nc unit longest small h) b more e w =
      let f = first_of_token bytes rest k b more unit e in
      let g : is_white b ≡ true = blank_white b w in
      absurd cc

  pub un_feed : {text : List ℕ} {ts : List Tok} {ps : List Piece} → ArePieces total text ts ps → (more : List ℕ) →
      text ≡ 10 ∷ more → (qs : List Piece) × (ps ≡ feed ∷ qs) × ArePieces total more ts qs
  un_feed cut.at_end more e = absurd cc
  un_feed (cut.blank {b} v h) more e = let same : b ≡ 10 = cc in let f : is_blank 10 ≡ true = ap is_blank (sym same) ∙ v in absurd cc
  un_feed (cut.line_feed {text} {ts} {ps} h) more e = let same : text ≡ more = cc in (ps, refl, subst (λ (l : List ℕ). ArePieces total l ts ps) same h)
  un_feed (cut.comment line all end h) more e = absurd cc
  un_feed (cut.token {bytes} {rest} {k} nc unit longest small h) more e =
      let f = first_of_token bytes rest k 10 more unit e in absurd cc

  -- a comment up to the end of its line
  pub un_comment : {text : List ℕ} {ts : List Tok} {ps : List Piece} → ArePieces total text ts ps → begins_comment text ≡ true →
      (qs : List Piece) × (ps ≡ item Comment (trimmed (run_of is_in_line text)) ∷ qs) × ArePieces total (after_run is_in_line text) ts qs
  un_comment cut.at_end e = absurd cc
  un_comment (cut.blank {b} {text} v h) e =
      let c = comment_is (b ∷ text) e in
      let q = c.1 in
      let same : b ≡ 47 = cc in
      let f : is_blank 47 ≡ true = ap is_blank (sym same) ∙ v in absurd cc
  un_comment (cut.line_feed {text} h) e = let c = comment_is (10 ∷ text) e in let q = c.1 in absurd cc
  un_comment (cut.comment line {text} {ts} {ps} all end h) e =
      let p = line_front line text all end in (
        ps,
        ap (λ (l : List ℕ). item Comment (trimmed (47 ∷ 47 ∷ l)) ∷ ps) (sym p.0),
        subst (λ (l : List ℕ). ArePieces total l ts ps) (sym p.1) h,
      )
  un_comment (cut.token {bytes} {rest} {k} nc unit longest small h) e = absurd (nc (comment_is (bytes ++ rest) e))

  pub record Taken (text : List ℕ) (ts : List Tok) (ps : List Piece) : Type 0 where
    pub bytes : List ℕ
    pub rest : List ℕ
    pub k : Lexeme
    pub us : List Tok
    pub qs : List Piece
    pub is : text ≡ bytes ++ rest
    pub tokens : ts ≡ tok_at total bytes rest k ∷ us
    pub pieces : ps ≡ item (kind_of k) bytes ∷ qs
    pub some : 0 < length bytes
    pub more : ArePieces total rest us qs

  pub un_token : {text : List ℕ} {ts : List Tok} {ps : List Piece} → ArePieces total text ts ps → (b : ℕ) (more : List ℕ) →
      text ≡ b ∷ more → is_blank b ≡ false → (b ≡ 10 → ⊥) → (BeginsComment text → ⊥) → Taken text ts ps
  un_token cut.at_end b more e w f c = absurd cc
  un_token (cut.blank {b = d} v h) b more e w f c =
      let same : d ≡ b = cc in
      let g : is_blank b ≡ true = ap is_blank (sym same) ∙ v in absurd cc
  un_token (cut.line_feed h) b more e w f c = let same : b ≡ 10 = cc in absurd (f same)
  un_token (cut.comment line {text} all end h) b more e w f c = absurd (c (line ++ text, refl))
  un_token (cut.token {bytes} {rest} {k} {ts} {ps} nc unit longest small h) b more e w f c =
      let s = unit_begins unit in
      record {
        bytes = bytes;
        rest = rest;
        k = k;
        us = ts;
        qs = ps;
        is = refl;
        tokens = refl;
        pieces = refl;
        some = omega (arith, ap length s.is);
        more = h;
      }
