-- Which tokens a text has.
use Rattle.std.specs.Prelude.{◌≡◌, ℕ, ◌+◌, ◌-◌, ◌*◌, ◌<◌, ◌≤◌, Bool, not, ◌&&◌, ◌||◌, ◌==◌, nat_le, List, [], ◌∷◌}
use Rattle.std.specs.Prelude.{◌++◌, length, fold, codes, slice_range, string_bytes, IsTrue}
use Rattle.std.specs.List.{list_all}
use Rattle.source.specs.declared.fault.Code.{Code}
use Rattle.source.specs.declared.fault.Code.TheVariants.{BadCharacter, NumberTooLarge, LimitExceeded}
use Rattle.source.specs.declared.fault.Refusal.{Refusal}
use Rattle.source.specs.declared.fault.Refusal.TheVariants.{Fault, NoMemory}
use Rattle.source.specs.declared.token.Keyword.{Keyword}
use Rattle.source.specs.declared.token.Keyword.TheVariants.{Lock, Struct, Final, Ref, Int, Global, ProtectedBy, Pool}
use Rattle.source.specs.declared.token.Keyword.TheVariants.{Init, Atomic, Let, Var, If, Else, While, Print, Return}
use Rattle.source.specs.declared.token.Keyword.TheVariants.{Thread, Repeat, Null, Where, Call}
use Rattle.source.specs.declared.token.Sign.{Sign}
use Rattle.source.specs.declared.token.Sign.TheVariants.{OpenBrace, CloseBrace, OpenParen, CloseParen, OpenBracket}
use Rattle.source.specs.declared.token.Sign.TheVariants.{CloseBracket, Semicolon, Comma, Colon, Dot, Equals}
use Rattle.source.specs.declared.token.Sign.TheVariants.{DoubleEquals, NotEquals, Less, LessEquals, Greater}
use Rattle.source.specs.declared.token.Sign.TheVariants.{GreaterEquals, Plus, Minus, Star, Slash, Percent, And, Or}
use Rattle.source.specs.declared.token.Sign.TheVariants.{Not}
use Rattle.source.specs.Tokens.{Lexeme, name, int, word, mark, end, Tok}
pub use Rattle.source.specs.Limits.{NUMBER_LIMIT, NAME_LIMIT, SOURCE_LIMIT}

-- ---- bytes

-- the number `b` lies from `low` to `high`, both included
abbrev pub is_between : ℕ → ℕ → ℕ → Bool
is_between low high b = nat_le low b && nat_le b high

-- an ASCII digit
abbrev pub is_digit : ℕ → Bool
is_digit b = is_between 48 57 b

-- a letter or `_`
abbrev pub is_letter : ℕ → Bool
is_letter b = is_between 65 90 b || is_between 97 122 b || (b == 95)

-- a letter, `_` or a digit
abbrev pub is_name_byte : ℕ → Bool
is_name_byte b = is_letter b || is_digit b

-- space, tab, CR, LF
abbrev pub is_white : ℕ → Bool
is_white b = (b == 32) || (b == 9) || (b == 13) || (b == 10)

-- ---- single tokens

-- how each keyword is written
abbrev pub keyword_text : Keyword → List ℕ
keyword_text Lock = codes "lock"
keyword_text Struct = codes "struct"
keyword_text Final = codes "final"
keyword_text Ref = codes "ref"
keyword_text Int = codes "int"
keyword_text Global = codes "global"
keyword_text ProtectedBy = codes "protected_by"
keyword_text Pool = codes "pool"
keyword_text Init = codes "init"
keyword_text Atomic = codes "atomic"
keyword_text Let = codes "let"
keyword_text Var = codes "var"
keyword_text If = codes "if"
keyword_text Else = codes "else"
keyword_text While = codes "while"
keyword_text Print = codes "print"
keyword_text Return = codes "return"
keyword_text Thread = codes "thread"
keyword_text Repeat = codes "repeat"
keyword_text Null = codes "null"
keyword_text Where = codes "where"
keyword_text Call = codes "call"

-- how each sign is written
abbrev pub sign_text : Sign → List ℕ
sign_text OpenBrace = codes "{"
sign_text CloseBrace = codes "}"
sign_text OpenParen = codes "("
sign_text CloseParen = codes ")"
sign_text OpenBracket = codes "["
sign_text CloseBracket = codes "]"
sign_text Semicolon = codes ";"
sign_text Comma = codes ","
sign_text Colon = codes ":"
sign_text Dot = codes "."
sign_text Equals = codes "="
sign_text DoubleEquals = codes "=="
sign_text NotEquals = codes "!="
sign_text Less = codes "<"
sign_text LessEquals = codes "<="
sign_text Greater = codes ">"
sign_text GreaterEquals = codes ">="
sign_text Plus = codes "+"
sign_text Minus = codes "-"
sign_text Star = codes "*"
sign_text Slash = codes "/"
sign_text Percent = codes "%"
sign_text And = codes "&&"
sign_text Or = codes "||"
sign_text Not = codes "!"

-- the number that these decimal digits write
abbrev pub value_of : List ℕ → ℕ
value_of digits = fold (λ n b. n * 10 + (b - 48)) 0 digits

-- these bytes are this token, whatever its size
pub data IsUnit : List ℕ → Lexeme → Type 0 where
  is_name : {b : ℕ} {bs : List ℕ} → IsTrue (is_letter b) → IsTrue (list_all is_name_byte bs) →
      ((w : Keyword) → keyword_text w ≡ b ∷ bs → ⊥) → IsUnit (b ∷ bs) (name (b ∷ bs))
  is_number : {b : ℕ} {bs : List ℕ} → IsTrue (list_all is_digit (b ∷ bs)) → IsUnit (b ∷ bs) (int (value_of (b ∷ bs)))
  is_word : (w : Keyword) → IsUnit (keyword_text w) (word w)
  is_mark : (s : Sign) → IsUnit (sign_text s) (mark s)

-- these bytes with more of the rest make no token
abbrev pub IsLongest : List ℕ → List ℕ → Type 0
IsLongest bytes rest = (b : ℕ) (more other : List ℕ) (k : Lexeme) → rest ≡ (b ∷ more) ++ other → IsUnit (bytes ++ b ∷ more) k → ⊥

-- ---- limits

-- a number and a name keep their limits; other tokens have none
abbrev pub IsWithin : Lexeme → Type 0
IsWithin (int n) = n ≤ NUMBER_LIMIT
IsWithin (name text) = length text ≤ NAME_LIMIT
IsWithin _ = Unit {0}

-- ---- between tokens

-- the end of a line, or of the text
abbrev pub IsLineEnd : List ℕ → Type 0
IsLineEnd [] = Unit {0}
IsLineEnd (b ∷ bs) = b ≡ 10

-- any byte but a line feed
abbrev pub is_in_line : ℕ → Bool
is_in_line b = not (b == 10)

-- white space and comments, from the first text up to the second
pub data IsGap : List ℕ → List ℕ → Type 0 where
  no_gap : {rest : List ℕ} → IsGap rest rest
  white : {b : ℕ} {text rest : List ℕ} → IsTrue (is_white b) → IsGap text rest → IsGap (b ∷ text) rest
  comment : (line : List ℕ) {text rest : List ℕ} → IsTrue (list_all is_in_line line) → IsLineEnd text →
      IsGap text rest → IsGap (47 ∷ 47 ∷ line ++ text) rest

-- a comment begins here
abbrev pub BeginsComment : List ℕ → Type 0
BeginsComment text = (rest : List ℕ) × (text ≡ 47 ∷ 47 ∷ rest)

-- ---- whole texts

-- the next token of the text has these bytes, and `rest` follows it
pub record IsNext (text bytes rest : List ℕ) (k : Lexeme) : Type 0 where
  pub gap : IsGap text (bytes ++ rest)
  pub no_comment : BeginsComment (bytes ++ rest) → ⊥
  pub unit : IsUnit bytes k
  pub longest : IsLongest bytes rest

-- the position at which the rest of a text with `total` bytes begins
abbrev pub place : ℕ → List ℕ → ℕ
place total rest = total - length rest

-- a token of the text and its position
abbrev pub tok_at : ℕ → List ℕ → List ℕ → Lexeme → Tok
tok_at total bytes rest k = record { kind = k; span = record { start = place total (bytes ++ rest); end = place total rest } }

-- the end of a text with this number of bytes, as a token
abbrev pub end_at : ℕ → Tok
end_at total = record { kind = end; span = record { start = total; end = total } }

-- the tokens of the rest of a text with `total` bytes
pub data AreTokens (total : ℕ) : List ℕ → List Tok → Type 0 where
  at_end : {text : List ℕ} → IsGap text [] → AreTokens total text (end_at total ∷ [])
  token : {text bytes rest : List ℕ} {k : Lexeme} {ts : List Tok}
      → IsNext text bytes rest k → IsWithin k → AreTokens total rest ts
      → AreTokens total text (tok_at total bytes rest k ∷ ts)

-- the text has these tokens
abbrev pub HasTokens : List ℕ → List Tok → Type 0
HasTokens text ts = AreTokens (length text) text ts

-- each token begins at or after the end of the one before it, and ends at or after its start
abbrev pub DoRise : ℕ → List Tok → Type 0
DoRise from [] = Unit {0}
DoRise from (t ∷ ts) = (from ≤ t.span.start) × (t.span.start ≤ t.span.end) × DoRise t.span.end ts

-- each token except the end has the bytes of the text from its start to its end
abbrev pub AreSlices : List ℕ → List Tok → Type 0
AreSlices text [] = Unit {0}
AreSlices text (t ∷ ts) = ((t.kind ≡ end → ⊥) → IsUnit (slice_range text t.span.start t.span.end) t.kind) × AreSlices text ts

-- ---- faults

-- from the first text to the second, only tokens and gaps between them
pub data Leads : List ℕ → List ℕ → Type 0 where
  here : {text : List ℕ} → Leads text text
  past : {text bytes rest here : List ℕ} {k : Lexeme} → IsNext text bytes rest k → IsWithin k → Leads rest here →
      Leads text here

-- E01: after tokens, a byte that begins neither a token nor a comment and is not white space
pub record IsBadCharacter (total : ℕ) (text : List ℕ) (start : ℕ) : Type 0 where
  pub from : List ℕ
  pub byte : ℕ
  pub rest : List ℕ
  pub before : Leads text from
  pub gap : IsGap from (byte ∷ rest)
  pub is_at : place total (byte ∷ rest) ≡ start
  pub no_white : IsTrue (is_white byte) → ⊥
  pub no_comment : BeginsComment (byte ∷ rest) → ⊥
  pub no_token : (bytes other : List ℕ) (k : Lexeme) → byte ∷ rest ≡ bytes ++ other → IsUnit bytes k → ⊥

-- after tokens, one that is too large or too long
pub record IsOver (total : ℕ) (text : List ℕ) (start : ℕ) (k : Lexeme) : Type 0 where
  pub from : List ℕ
  pub bytes : List ℕ
  pub rest : List ℕ
  pub before : Leads text from
  pub next : IsNext from bytes rest k
  pub is_at : place total (bytes ++ rest) ≡ start
  pub over : IsWithin k → ⊥

-- the fault of a text with `total` bytes, after its first tokens: E01, E02, or E15 of a name
pub data IsFaultFrom (total : ℕ) (text : List ℕ) : Code → ℕ → Type 0 where
  bad_character : {start : ℕ} → IsBadCharacter total text start → IsFaultFrom total text BadCharacter start
  too_large : {start : ℕ} (value : ℕ) → IsOver total text start (int value) →
      IsFaultFrom total text NumberTooLarge start
  too_long : {start : ℕ} (x : List ℕ) → IsOver total text start (name x) → IsFaultFrom total text LimitExceeded start

-- a source over the limit has only one fault, E15 at its first byte
pub data IsFault (text : List ℕ) : Code → ℕ → Type 0 where
  too_big : SOURCE_LIMIT < length text → IsFault text LimitExceeded 0
  within : {code : Code} {start : ℕ} → length text ≤ SOURCE_LIMIT → IsFaultFrom (length text) text code start →
      IsFault text code start

-- the refusal is a fault of the text, with no detail, or the failure of an allocation
abbrev pub IsRefusal : List ℕ → Refusal → Type 0
IsRefusal text NoMemory = Unit {0}
IsRefusal text (Fault f) = IsFault text f.code f.start × (string_bytes f.detail ≡ [])
