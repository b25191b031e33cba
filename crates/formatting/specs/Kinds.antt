-- The kinds of tokens and comments for the layout.
use Rattle.std.specs.Prelude.{ℕ, Bool, true, false, if◌then◌else◌}
use Rattle.source.specs.declared.token.Keyword.{Keyword}
use Rattle.source.specs.declared.token.Keyword.TheVariants.{If, While, Print, Return}
use Rattle.source.specs.declared.token.Keyword.TheVariants as keyword
use Rattle.source.specs.declared.token.Sign.{Sign}
use Rattle.source.specs.declared.token.Sign.TheVariants as sign
use Rattle.source.specs.Tokens.{Lexeme, word, mark}
use Rattle.formatting.specs.declared.kind.PieceKind.{PieceKind}
use Rattle.formatting.specs.declared.kind.PieceKind.TheVariants.{OpenBrace, CloseBrace, OpenParen, OpenBracket, Closing}
use Rattle.formatting.specs.declared.kind.PieceKind.TheVariants.{Semicolon, Comma, Colon, Dot, Minus, Prefix, Operator}
use Rattle.formatting.specs.declared.kind.PieceKind.TheVariants.{Head, Else, Init, Word, Comment}

-- the kind of each sign
abbrev pub sign_kind : Sign → PieceKind
sign_kind sign.OpenBrace = OpenBrace
sign_kind sign.CloseBrace = CloseBrace
sign_kind sign.OpenParen = OpenParen
sign_kind sign.OpenBracket = OpenBracket
sign_kind sign.CloseParen = Closing
sign_kind sign.CloseBracket = Closing
sign_kind sign.Semicolon = Semicolon
sign_kind sign.Comma = Comma
sign_kind sign.Colon = Colon
sign_kind sign.Dot = Dot
sign_kind sign.Minus = Minus
sign_kind sign.Not = Prefix
sign_kind _ = Operator

-- the kind of each keyword
abbrev pub word_kind : Keyword → PieceKind
word_kind If = Head
word_kind While = Head
word_kind Print = Head
word_kind Return = Head
word_kind keyword.Else = Else
word_kind keyword.Init = Init
word_kind _ = Word

-- the kind of a token
abbrev pub kind_of : Lexeme → PieceKind
kind_of (mark s) = sign_kind s
kind_of (word w) = word_kind w
kind_of _ = Word

-- the piece is `{`
abbrev pub is_open : PieceKind → Bool
is_open OpenBrace = true
is_open _ = false

-- the piece is a comment
abbrev pub is_comment : PieceKind → Bool
is_comment Comment = true
is_comment _ = false

-- the piece is the word `init`
abbrev pub is_init : PieceKind → Bool
is_init Init = true
is_init _ = false

-- the piece is `}`
abbrev pub is_close : PieceKind → Bool
is_close CloseBrace = true
is_close _ = false

-- the piece ends a statement or a declaration
abbrev pub does_end : PieceKind → Bool
does_end Semicolon = true
does_end CloseBrace = true
does_end _ = false

-- no statement or declaration has begun after the piece
abbrev pub is_ended : PieceKind → Bool
is_ended OpenBrace = true
is_ended Semicolon = true
is_ended CloseBrace = true
is_ended _ = false

-- after the end of a statement or declaration, the piece begins a line
abbrev pub begins_line : PieceKind → Bool
begins_line Else = false
begins_line Init = false
begins_line Comment = false
begins_line _ = true

-- the piece ends an operand, so that a `-` after it is not a prefix
abbrev pub is_operand : PieceKind → Bool
is_operand Word = true
is_operand Closing = true
is_operand _ = false

-- no space is written between the two pieces, if the first is neither an opening sign nor a dot nor a prefix
abbrev pub is_tight_before : PieceKind → PieceKind → Bool
is_tight_before last Semicolon = true
is_tight_before last Comma = true
is_tight_before last Closing = true
is_tight_before last Dot = true
is_tight_before last OpenBracket = true
is_tight_before Closing Colon = false
is_tight_before last Colon = true
is_tight_before Word OpenParen = true
is_tight_before last next = false

-- no space is written between the two pieces
abbrev pub is_tight : PieceKind → PieceKind → Bool
is_tight OpenParen next = true
is_tight OpenBracket next = true
is_tight Dot next = true
is_tight Prefix next = true
is_tight last next = is_tight_before last next

-- the most line feeds between two pieces where a line may end: no line is blank at either end of a block
abbrev pub limit : PieceKind → PieceKind → ℕ
limit OpenBrace CloseBrace = 0
limit OpenBrace next = 1
limit last CloseBrace = 1
limit last Else = 0
limit last next = 2

-- the kind by which the next piece counts for those after it: a `-` with no operand before it is a prefix, a comment
-- within a statement is passed over, and one between statements counts as an end
abbrev pub last_behind : PieceKind → PieceKind → PieceKind
last_behind last Comment = if is_ended last then Semicolon else last
last_behind last Minus = if is_operand last then Minus else Prefix
last_behind last next = next
