-- What a text is cut into: its tokens and comments, and the line feeds between them.
use Rattle.std.specs.Prelude.{ℕ, ◌||◌, ◌==◌, Bool, List, [], ◌∷◌, ◌++◌, length, if◌then◌else◌, IsTrue}
use Rattle.std.specs.List.{list_all}
use Rattle.source.specs.Tokens.{Lexeme, Tok}
use Rattle.source.specs.Texts.{is_in_line, IsLineEnd, BeginsComment, IsUnit, IsLongest, IsWithin, tok_at, end_at}
use Rattle.formatting.specs.declared.kind.PieceKind.{PieceKind}
use Rattle.formatting.specs.declared.kind.PieceKind.TheVariants.{Comment}
use Rattle.formatting.specs.Kinds.{kind_of}

-- a line feed, or a token or a comment with its bytes
pub data Piece : Type 0 where
  feed : Piece
  item : (kind : PieceKind) (bytes : List ℕ) → Piece

-- space, tab or carriage return
abbrev pub is_blank : ℕ → Bool
is_blank b = (b == 32) || (b == 9) || (b == 13)

-- a byte before others, unless it is a blank at the end
abbrev pub kept : ℕ → List ℕ → List ℕ
kept b [] = if is_blank b then [] else b ∷ []
kept b (c ∷ cs) = b ∷ c ∷ cs

-- without the blanks at its end
abbrev pub trimmed : List ℕ → List ℕ
trimmed [] = []
trimmed (b ∷ bs) = kept b (trimmed bs)

-- the tokens and the pieces of the rest of a text with `total` bytes; a comment goes up to the end of its line, without
-- the blanks there
pub data ArePieces (total : ℕ) : List ℕ → List Tok → List Piece → Type 0 where
  at_end : ArePieces total [] (end_at total ∷ []) []
  blank : {b : ℕ} {text : List ℕ} {ts : List Tok} {ps : List Piece}
      → IsTrue (is_blank b) → ArePieces total text ts ps → ArePieces total (b ∷ text) ts ps
  line_feed : {text : List ℕ} {ts : List Tok} {ps : List Piece}
      → ArePieces total text ts ps → ArePieces total (10 ∷ text) ts (feed ∷ ps)
  comment : (line : List ℕ) {text : List ℕ} {ts : List Tok} {ps : List Piece}
      → IsTrue (list_all is_in_line line) → IsLineEnd text → ArePieces total text ts ps
      → ArePieces total (47 ∷ 47 ∷ line ++ text) ts (item Comment (trimmed (47 ∷ 47 ∷ line)) ∷ ps)
  token : {bytes rest : List ℕ} {k : Lexeme} {ts : List Tok} {ps : List Piece}
      → (BeginsComment (bytes ++ rest) → ⊥) → IsUnit bytes k → IsLongest bytes rest → IsWithin k
      → ArePieces total rest ts ps
      → ArePieces total (bytes ++ rest) (tok_at total bytes rest k ∷ ts) (item (kind_of k) bytes ∷ ps)

-- the text has these tokens and pieces
abbrev pub HasPieces : List ℕ → List Tok → List Piece → Type 0
HasPieces text ts ps = ArePieces (length text) text ts ps

-- the tokens and comments among them
abbrev pub items_of : List Piece → List Piece
items_of [] = []
items_of (feed ∷ ps) = items_of ps
items_of (item k bytes ∷ ps) = item k bytes ∷ items_of ps
