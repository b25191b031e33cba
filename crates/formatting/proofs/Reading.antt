-- A layout is read back as the same pieces, except for line feeds.
use Rattle.std.proofs.Common.{◌≡◌, ℕ, zero, suc, ◌+◌, ◌≤◌, max, min, Bool, true, false, cond, List, [], ◌∷◌, ◌++◌, refl, sym}
use Rattle.std.proofs.Common.{ap, ◌∙◌, subst, arith, append_assoc, map}
use Rattle.std.specs.Prelude.{not, ◌&&◌, ◌||◌, slice_index}
use Rattle.std.specs.List.{list_all}
use Rattle.std.proofs.lemmas.Bool.{and_parts}
use Rattle.source.specs.Tokens.{Lexeme, Tok}
use Rattle.source.specs.Texts.{is_in_line, IsLineEnd, tok_at, end_at}
use Rattle.formatting.specs.declared.kind.PieceKind.{PieceKind}
use Rattle.formatting.specs.declared.kind.PieceKind.TheVariants.{Comment}
use Rattle.formatting.specs.declared.state.LayoutState.{LayoutState}
use Rattle.formatting.specs.Kinds.{kind_of, is_comment, is_init, is_ended, is_tight}
use Rattle.formatting.specs.Pieces.{Piece, feed, item, is_blank, kept, trimmed, ArePieces, items_of}
use Rattle.formatting.specs.Pieces as cut
use Rattle.formatting.specs.Layout.{least, most, lines, spaces, indent, many, gap_of, gap, behind, ending, laid, is_apart}
use Rattle.formatting.specs.Formatted.{kind}
use Rattle.formatting.proofs.Units.{Parts, unit_begins, parted_longest, parted_no_comment}

-- ---- the pieces of a laid-out text

abbrev pub feeds : ℕ → List Piece
feeds zero = []
feeds (suc n) = feed ∷ feeds n

abbrev pub end_feed : Bool → List Piece
end_feed true = feed ∷ []
end_feed false = []

abbrev pub tidied : LayoutState → ℕ → List Piece → List Piece
tidied s found [] = end_feed s.has_begun
tidied s found (feed ∷ ps) = tidied s (suc found) ps
tidied s found (item k bytes ∷ ps) =
    feeds (lines s k found) ++ item k bytes ∷ tidied (behind s k (slice_index bytes 0) (lines s k found)) 0 ps

-- ---- laid out again

within_again : (lo hi n : ℕ) → max lo (min (max lo (min n hi)) hi) ≡ max lo (min n hi)
within_again lo hi n = omega arith

lines_again : (s : LayoutState) (k : PieceKind) (found : ℕ) → lines s k (lines s k found) ≡ lines s k found
unfolding lines
lines_again s k found = within_again (least s k) (most s k) found

laid_feeds : (s : LayoutState) (m n : ℕ) (ps : List Piece) → laid s n (feeds m ++ ps) ≡ laid s (m + n) ps
laid_feeds s zero n ps = ap (λ (n : ℕ). laid s n ps) (omega arith)
laid_feeds s (suc m) n ps = laid_feeds s m (suc n) ps ∙ ap (λ (n : ℕ). laid s n ps) (omega arith)

ending_again : (s : LayoutState) (b : Bool) → s.has_begun ≡ b → laid s 0 (end_feed b) ≡ ending b
ending_again s true e = rw e refl
ending_again s false e = rw e refl

item_again : (s : LayoutState) (k : PieceKind) (bytes : List ℕ) (m n : ℕ) (ps qs : List Piece) → m ≡ n →
    laid (behind s k (slice_index bytes 0) n) 0 ps ≡ laid (behind s k (slice_index bytes 0) n) 0 qs →
    gap s k (slice_index bytes 0) m ++ bytes ++ laid (behind s k (slice_index bytes 0) m) 0 ps
    ≡ gap s k (slice_index bytes 0) n ++ bytes ++ laid (behind s k (slice_index bytes 0) n) 0 qs
item_again s k bytes m n ps qs e h =
    ap (λ (m : ℕ). gap s k (slice_index bytes 0) m ++ bytes ++ laid (behind s k (slice_index bytes 0) m) 0 ps) e ∙ ap (λ (l : List ℕ). gap s k (slice_index bytes 0) n ++ bytes ++ l) h

pub laid_again : (s : LayoutState) (found : ℕ) (ps : List Piece) → laid s 0 (tidied s found ps) ≡ laid s found ps
laid_again s found [] = ending_again s s.has_begun refl
laid_again s found (feed ∷ ps) = laid_again s (suc found) ps
laid_again s found (item k bytes ∷ ps) =
    let m : ℕ = lines s k found in
    let after : LayoutState = behind s k (slice_index bytes 0) m in
    let more : List Piece = item k bytes ∷ tidied after 0 ps in
    let on : lines s k (m + 0) ≡ m = ap (lines s k) (omega arith) ∙ lines_again s k found in
    laid_feeds s m 0 more ∙ item_again s k bytes (lines s k (m + 0)) m (tidied after 0 ps) ps on (laid_again after 0 ps)

-- ---- the same items

items_feeds : (m : ℕ) (ps : List Piece) → items_of (feeds m ++ ps) ≡ items_of ps
items_feeds zero ps = refl
items_feeds (suc m) ps = items_feeds m ps

end_items : (b : Bool) → items_of (end_feed b) ≡ []
end_items true = refl
end_items false = refl

pub items_stay : (s : LayoutState) (found : ℕ) (ps : List Piece) → items_of (tidied s found ps) ≡ items_of ps
items_stay s found [] = end_items s.has_begun
items_stay s found (feed ∷ ps) = items_stay s (suc found) ps
items_stay s found (item k bytes ∷ ps) =
    let m : ℕ = lines s k found in
    let after : LayoutState = behind s k (slice_index bytes 0) m in
    items_feeds m (item k bytes ∷ tidied after 0 ps) ∙ ap (λ (l : List Piece). item k bytes ∷ l) (items_stay after 0 ps)

-- ---- gaps

module _ (total : ℕ) (X : List ℕ) (ts : List Tok) where
  blanks_read : (n : ℕ) {ps : List Piece} → ArePieces total X ts ps → ArePieces total (many n 32 ++ X) ts ps
  blanks_read zero h = h
  blanks_read (suc n) h = cut.blank refl (blanks_read n h)

feeds_read : (total : ℕ) (X : List ℕ) (ts : List Tok) (n : ℕ) {ps : List Piece} → ArePieces total X ts ps →
    ArePieces total (many n 10 ++ X) ts (feeds n ++ ps)
feeds_read total X ts zero h = h
feeds_read total X ts (suc n) h = cut.line_feed (feeds_read total X ts n h)

gap_of_read : (total : ℕ) (X : List ℕ) (ts : List Tok) (m spaces indent : ℕ) {ps : List Piece} → ArePieces total X ts ps →
    ArePieces total (gap_of m spaces indent ++ X) ts (feeds m ++ ps)
gap_of_read total X ts zero spaces indent h = blanks_read total X ts spaces h
gap_of_read total X ts (suc m) spaces indent {ps} h =
    subst (λ (l : List ℕ). ArePieces total l ts (feeds (suc m) ++ ps)) (sym (append_assoc (many (suc m) 10) (many indent 32) X)) (feeds_read total (many indent 32 ++ X) ts (suc m) (blanks_read total X ts indent h))

gap_read : (total : ℕ) (X : List ℕ) (ts : List Tok) (s : LayoutState) (k : PieceKind) (b m : ℕ) {ps : List Piece} →
    ArePieces total X ts ps → ArePieces total (gap s k b m ++ X) ts (feeds m ++ ps)
unfolding gap
gap_read total X ts s k b m h = gap_of_read total X ts m (spaces s k b) (indent s k m) h

-- ---- what follows a comment, and after a token

begun_behind : (s : LayoutState) (k : PieceKind) (b m : ℕ) → (behind s k b m).has_begun ≡ true
unfolding behind
begun_behind s k b m = refl

comment_behind : (s : LayoutState) (k : PieceKind) (b m : ℕ) → (behind s k b m).is_behind_comment ≡ is_comment k
unfolding behind
comment_behind s k b m = refl

first_behind : (s : LayoutState) (k : PieceKind) (b m : ℕ) → (behind s k b m).first ≡ b
unfolding behind
first_behind s k b m = refl

least_one : (s : LayoutState) (k : PieceKind) → s.has_begun ≡ true → s.is_behind_comment ≡ true → least s k ≡ 1
least_one s k e f = rw (e, f) refl

some_lines : (s : LayoutState) (k : PieceKind) (found : ℕ) → s.has_begun ≡ true → s.is_behind_comment ≡ true → 1 ≤ lines s k found
unfolding lines
some_lines s k found e f = let h = least_one s k e f in omega arith

gap_ends : (s : LayoutState) (k : PieceKind) (b m : ℕ) (X : List ℕ) → 1 ≤ m → IsLineEnd (gap s k b m ++ X)
unfolding gap
gap_ends s k b zero X h = absurd (omega arith)
gap_ends s k b (suc m) X h = refl

ends_line : (s : LayoutState) (found : ℕ) (ps : List Piece) → s.has_begun ≡ true → s.is_behind_comment ≡ true →
    IsLineEnd (laid s found ps)
ends_line s found [] e f = rw e refl
ends_line s found (feed ∷ ps) e f = ends_line s (suc found) ps e f
ends_line s found (item k bytes ∷ ps) e f =
    let m : ℕ = lines s k found in
    let X : List ℕ = laid (behind s k (slice_index bytes 0) m) 0 ps in
    subst IsLineEnd (sym (append_assoc (gap s k (slice_index bytes 0) m) bytes X)) (gap_ends s k (slice_index bytes 0) m (bytes ++ X) (some_lines s k found e f))

-- spaces in front of a piece, unless the two may touch
spaces_part : (n a b : ℕ) (more : List ℕ) → (n ≡ 0 → is_apart a b ≡ true) → Parts a (many n 32 ++ b ∷ more)
spaces_part zero a b more h = h refl
spaces_part (suc n) a b more h = refl

-- one of two numbers
abbrev pick : Bool → ℕ → ℕ → ℕ
pick t m n = cond t m n

touch : (t u : Bool) → pick (t && u) 0 1 ≡ 0 → u ≡ true
touch true true e = refl
touch true false e = absurd cc
touch false true e = refl
touch false false e = absurd cc

wide : (c i t u : Bool) → pick (c || i) 2 (pick (t && u) 0 1) ≡ 0 → u ≡ true
wide true i t u e = absurd cc
wide false true t u e = absurd cc
wide false false t u e = touch t u e

no_spaces : (s : LayoutState) (k : PieceKind) (b : ℕ) → s.has_begun ≡ true → spaces s k b ≡ 0 → is_apart s.first b ≡ true
no_spaces s k b e h = wide (is_comment k) (is_init k && is_ended s.last) (is_tight s.last k) (is_apart s.first b) (narrow s.has_begun e h)
  where
    narrow : (begun : Bool) → begun ≡ true →
        pick (not begun) 0 (pick (is_comment k || (is_init k && is_ended s.last)) 2 (pick (is_tight s.last k && is_apart s.first b) 0 1)) ≡ 0 →
        pick (is_comment k || (is_init k && is_ended s.last)) 2 (pick (is_tight s.last k && is_apart s.first b) 0 1) ≡ 0
    narrow true e h = h
    narrow false e h = absurd cc

gap_parts : (s : LayoutState) (k : PieceKind) (b m : ℕ) (more : List ℕ) → s.has_begun ≡ true → Parts s.first (gap s k b m ++ b ∷ more)
unfolding gap
gap_parts s k b zero more e = spaces_part (spaces s k b) s.first b more (no_spaces s k b e)
gap_parts s k b (suc m) more e = refl

item_parts : (s : LayoutState) (k : PieceKind) (bytes : List ℕ) (m : ℕ) (X : List ℕ) (b : ℕ) (more : List ℕ) → bytes ≡ b ∷ more →
    s.has_begun ≡ true → Parts s.first (gap s k (slice_index bytes 0) m ++ bytes ++ X)
item_parts s k bytes m X b more e h =
    subst (λ (bytes : List ℕ). Parts s.first (gap s k (slice_index bytes 0) m ++ bytes ++ X)) (sym e)
    (subst (Parts s.first) (sym (append_assoc (gap s k b m) (b ∷ more) X)) (gap_parts s k b m (more ++ X) h))

comment_first : (line : List ℕ) → trimmed (47 ∷ 47 ∷ line) ≡ 47 ∷ 47 ∷ trimmed line
comment_first line = kept_slash (kept 47 (trimmed line)) ∙ ap (λ (l : List ℕ). 47 ∷ l) (kept_slash (trimmed line))
  where
    kept_slash : (l : List ℕ) → kept 47 l ≡ 47 ∷ l
    kept_slash [] = refl
    kept_slash (b ∷ l) = refl

module _ (total : ℕ) where
  parts_laid : {text : List ℕ} {ts : List Tok} {ps : List Piece} → ArePieces total text ts ps → (s : LayoutState) (found : ℕ) →
      s.has_begun ≡ true → Parts s.first (laid s found ps)
  parts_laid cut.at_end s found e = rw e refl
  parts_laid (cut.blank w h) s found e = parts_laid h s found e
  parts_laid (cut.line_feed h) s found e = parts_laid h s (suc found) e
  parts_laid (cut.comment line {text} {ts} {ps} all end h) s found e =
      let c : List ℕ = trimmed (47 ∷ 47 ∷ line) in
      let m : ℕ = lines s Comment found in
      item_parts s Comment c m (laid (behind s Comment (slice_index c 0) m) 0 ps) 47 (47 ∷ trimmed line) (comment_first line) e
  parts_laid (cut.token {bytes} {rest} {k} {ts} {ps} no_comment unit longest small h) s found e =
      let b = unit_begins unit in
      let m : ℕ = lines s (kind_of k) found in
      item_parts s (kind_of k) bytes m (laid (behind s (kind_of k) (slice_index bytes 0) m) 0 ps) b.first b.more b.is e

-- ---- blanks at the end of comments

kept_again : (b : ℕ) (l : List ℕ) → trimmed l ≡ l → trimmed (kept b l) ≡ kept b l
kept_again b [] e = turn (is_blank b) refl
  where
    turn : (t : Bool) → is_blank b ≡ t → trimmed (cond t [] (b ∷ [])) ≡ cond t [] (b ∷ [])
    turn true h = refl
    turn false h = rw h refl
kept_again b (c ∷ cs) e = ap (kept b) e

trimmed_again : (l : List ℕ) → trimmed (trimmed l) ≡ trimmed l
trimmed_again [] = refl
trimmed_again (b ∷ bs) = kept_again b (trimmed bs) (trimmed_again bs)

kept_in_line : (b : ℕ) (l : List ℕ) → is_in_line b ≡ true → list_all is_in_line l ≡ true →
    list_all is_in_line (kept b l) ≡ true
kept_in_line b [] e h = turn (is_blank b)
  where
    turn : (t : Bool) → list_all is_in_line (cond t [] (b ∷ [])) ≡ true
    turn true = refl
    turn false = rw e refl
kept_in_line b (c ∷ cs) e h = rw e h

trimmed_in_line : (l : List ℕ) → list_all is_in_line l ≡ true → list_all is_in_line (trimmed l) ≡ true
trimmed_in_line [] e = refl
trimmed_in_line (b ∷ bs) e = let p = and_parts (is_in_line b) (list_all is_in_line bs) e in kept_in_line b (trimmed bs) p.0 (trimmed_in_line bs p.1)

-- a trimmed comment is read unchanged
comment_read : (total : ℕ) (line text : List ℕ) (ts : List Tok) (ps : List Piece) → list_all is_in_line line ≡ true →
    IsLineEnd text → ArePieces total text ts ps →
    ArePieces total (trimmed (47 ∷ 47 ∷ line) ++ text) ts (item Comment (trimmed (47 ∷ 47 ∷ line)) ∷ ps)
comment_read total line text ts ps all e h =
    let first = comment_first line in
    let again : trimmed (47 ∷ 47 ∷ trimmed line) ≡ trimmed (47 ∷ 47 ∷ line) = ap trimmed (sym first) ∙ trimmed_again (47 ∷ 47 ∷ line) in
    subst (λ (l : List ℕ). ArePieces total (l ++ text) ts (item Comment (trimmed (47 ∷ 47 ∷ line)) ∷ ps)) (sym first)
    (subst (λ (l : List ℕ). ArePieces total (47 ∷ 47 ∷ trimmed line ++ text) ts (item Comment l ∷ ps)) again (cut.comment (trimmed line) (trimmed_in_line line all) e h))

-- ---- all that is laid out

pub record Back (total : ℕ) (text : List ℕ) (ts : List Tok) (ps : List Piece) : Type 0 where
  pub tokens : List Tok
  pub pieces : ArePieces total text tokens ps
  pub same : map kind tokens ≡ map kind ts

module _ (total new : ℕ) where
  end_back : (b : Bool) → Back new (ending b) (end_at total ∷ []) (end_feed b)
  end_back true = record { tokens = end_at new ∷ []; pieces = cut.line_feed cut.at_end; same = refl }
  end_back false = record { tokens = end_at new ∷ []; pieces = cut.at_end; same = refl }

  gap_back : (s : LayoutState) (k : PieceKind) (b m : ℕ) (bytes X : List ℕ) {ts : List Tok} {ps : List Piece} →
      Back new (bytes ++ X) ts ps → Back new (gap s k b m ++ bytes ++ X) ts (feeds m ++ ps)
  gap_back s k b m bytes X {ts} {ps} h = record {
    tokens = h.tokens;
    pieces = subst (λ (l : List ℕ). ArePieces new l h.tokens (feeds m ++ ps)) (sym (append_assoc (gap s k b m) bytes X)) (gap_read new (bytes ++ X) h.tokens s k b m h.pieces);
    same = h.same;
  }

  pub laid_back : {text : List ℕ} {ts : List Tok} {ps : List Piece} → ArePieces total text ts ps → (s : LayoutState) (found : ℕ) →
      Back new (laid s found ps) ts (tidied s found ps)
  laid_back cut.at_end s found = end_back s.has_begun
  laid_back (cut.blank w h) s found = laid_back h s found
  laid_back (cut.line_feed h) s found = laid_back h s (suc found)
  laid_back (cut.comment line {text} {ts} {ps} all end h) s found =
      let c : List ℕ = trimmed (47 ∷ 47 ∷ line) in
      let m : ℕ = lines s Comment found in
      let after : LayoutState = behind s Comment (slice_index c 0) m in
      let more = laid_back h after 0 in
      let ends = ends_line after 0 ps (begun_behind s Comment (slice_index c 0) m) (comment_behind s Comment (slice_index c 0) m) in
      gap_back s Comment (slice_index c 0) m c (laid after 0 ps) (record {
        tokens = more.tokens;
        pieces = comment_read new line (laid after 0 ps) more.tokens (tidied after 0 ps) all ends more.pieces;
        same = more.same;
      })
  laid_back (cut.token {bytes} {rest} {k} {ts} {ps} no_comment unit longest small h) s found =
      let first : ℕ = slice_index bytes 0 in
      let m : ℕ = lines s (kind_of k) found in
      let after : LayoutState = behind s (kind_of k) first m in
      let X : List ℕ = laid after 0 ps in
      let more = laid_back h after 0 in
      let parts : (a : ℕ) (xs : List ℕ) → bytes ≡ a ∷ xs → Parts a X = λ a xs e.
      subst (λ (a : ℕ). Parts a X) (first_behind s (kind_of k) first m ∙ ap (λ (l : List ℕ). slice_index l 0) e) (parts_laid total h after 0 (begun_behind s (kind_of k) first m)) in
      gap_back s (kind_of k) first m bytes X (record {
        tokens = tok_at new bytes X k ∷ more.tokens;
        pieces = cut.token (parted_no_comment unit X parts) unit (parted_longest unit X parts) small more.pieces;
        same = ap (λ (l : List Lexeme). k ∷ l) more.same;
      })
