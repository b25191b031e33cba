-- The layout: the gap before each piece, and thereby the whole text.
use Rattle.std.specs.Prelude.{ℕ, zero, suc, ◌+◌, ◌-◌, ◌*◌, Bool, true, false, not, ◌&&◌, ◌||◌, ◌==◌, max, min, List, [], ◌∷◌}
use Rattle.std.specs.Prelude.{◌++◌, slice_index, if◌then◌else◌}
use Rattle.source.specs.Texts.{is_name_byte}
use Rattle.formatting.specs.declared.kind.PieceKind.{PieceKind}
use Rattle.formatting.specs.declared.kind.PieceKind.TheVariants.{Semicolon}
use Rattle.formatting.specs.declared.state.LayoutState.{LayoutState}
use Rattle.formatting.specs.Kinds.{is_open, is_close, is_comment, is_init, does_end, is_ended, begins_line, is_tight, limit}
use Rattle.formatting.specs.Kinds.{last_behind}
use Rattle.formatting.specs.Pieces.{Piece, feed, item}

-- the state at the beginning of a text
abbrev pub START : LayoutState
START = record { depth = 0; inline = 0; last = Semicolon; first = 0; has_begun = false; is_behind_comment = false }

-- ---- line feeds

-- the fewest line feeds: a statement or a declaration begins a line, except in a block on one line, and so does what
-- follows a comment
abbrev pub least : LayoutState → PieceKind → ℕ
least s next =
    if s.has_begun && (s.is_behind_comment || (does_end s.last && (s.inline == 0) && begins_line next)) then 1 else 0

-- the most line feeds: a line may end where a statement or a declaration may begin, except in a block on one line, and
-- around a comment
abbrev pub most : LayoutState → PieceKind → ℕ
most s next =
    if s.has_begun && (s.is_behind_comment || is_comment next || (is_ended s.last && (s.inline == 0))) then limit s.last next else 0

-- the number of line feeds that were found, kept within these bounds
unfoldable pub lines : LayoutState → PieceKind → ℕ → ℕ
lines s next found = max (least s next) (min found (most s next))

-- ---- blocks

-- a block stands on lines of its own if its first line ends after its brace, except within a block on one line
abbrev pub is_block : LayoutState → PieceKind → ℕ → Bool
is_block s next feeds = (s.inline == 0) && (is_comment next || not (feeds == 0))

-- the number of open blocks on lines of their own before the next piece, and within them of blocks on one line
abbrev pub depth_at : LayoutState → PieceKind → ℕ → ℕ
depth_at s next feeds = if is_open s.last && is_block s next feeds then suc s.depth else s.depth

-- the number of open blocks on one line before the next piece
abbrev pub inline_at : LayoutState → PieceKind → ℕ → ℕ
inline_at s next feeds = if is_open s.last && not (is_block s next feeds) then suc s.inline else s.inline

-- the number of open blocks after a piece: a closing brace closes the innermost
abbrev pub depth_behind : PieceKind → ℕ → ℕ → ℕ
depth_behind next depth inline = if is_close next && (inline == 0) then depth - 1 else depth

-- the number of open blocks on one line after a piece
abbrev pub inline_behind : PieceKind → ℕ → ℕ
inline_behind next inline = if is_close next then inline - 1 else inline

-- ---- spaces

-- a byte that may be the second of a sign
abbrev pub is_second : ℕ → Bool
is_second b = (b == 61) || (b == 38) || (b == 124)

-- tokens that begin with these bytes may touch: they are not read as one token, nor as a comment
abbrev pub is_apart : ℕ → ℕ → Bool
is_apart a b = not (is_second b || (b == 47)) && not (is_name_byte b && is_name_byte a)

-- the number of spaces within a line, before a piece that begins with this byte
abbrev pub spaces : LayoutState → PieceKind → ℕ → ℕ
spaces s next b =
    if not s.has_begun then 0
    else (if is_comment next || (is_init next && is_ended s.last) then 2
    else (if is_tight s.last next && is_apart s.first b then 0 else 1))

-- the indentation of a line: two spaces for each block around it, not counting one that the line closes, and more
-- within a statement
abbrev pub indent : LayoutState → PieceKind → ℕ → ℕ
indent s next feeds =
    2 * (depth_at s next feeds + inline_at s next feeds + (if is_ended s.last then 0 else 1) - (if is_close next then 1 else 0))

-- the byte `b` the given number of times
abbrev pub many : ℕ → ℕ → List ℕ
many zero b = []
many (suc n) b = b ∷ many n b

-- line feeds and the indentation, or spaces if the line does not end
abbrev pub gap_of : ℕ → ℕ → ℕ → List ℕ
gap_of zero spaces indent = many spaces 32
gap_of (suc feeds) spaces indent = many (suc feeds) 10 ++ many indent 32

-- the gap before a piece that begins with this byte, if the given number of line feeds was found
unfoldable pub gap : LayoutState → PieceKind → ℕ → ℕ → List ℕ
gap s next b feeds = gap_of feeds (spaces s next b) (indent s next feeds)

-- ---- all pieces

-- the state after a piece
unfoldable pub behind : LayoutState → PieceKind → ℕ → ℕ → LayoutState
behind s next b feeds = record {
  depth = depth_behind next (depth_at s next feeds) (inline_at s next feeds);
  inline = inline_behind next (inline_at s next feeds);
  last = last_behind s.last next;
  first = b;
  has_begun = true;
  is_behind_comment = is_comment next;
}

-- a text with pieces ends in a line feed
abbrev pub ending : Bool → List ℕ
ending true = 10 ∷ []
ending false = []

-- the text of pieces, the first of which follows the given number of line feeds
abbrev pub laid : LayoutState → ℕ → List Piece → List ℕ
laid s found [] = ending s.has_begun
laid s found (feed ∷ ps) = laid s (suc found) ps
laid s found (item k bytes ∷ ps) =
    let b = slice_index bytes 0 in
    let feeds = lines s k found in
    gap s k b feeds ++ bytes ++ laid (behind s k b feeds) 0 ps
