-- What the functions of this crate compute.
use Rattle.std.specs.Prelude.{◌≡◌, ℕ, ◌*◌, ◌+◌, ◌<◌, ◌^◌, Bool, List, [], ◌∷◌, ◌==◌, ◌&&◌, nat_le, bytes_eq}
use Rattle.std.specs.Prelude.{slice_index, slice_index_or, ◌%◌, length, if◌then◌else◌, true, false, Option, Some}
use Rattle.std.specs.Prelude.{None, Result, Ok, Err}
use Rattle.source.specs.declared.fault.Code.{Code}
use Rattle.source.specs.declared.fault.Code.TheVariants.{BadCharacter, NumberTooLarge, LimitExceeded}
use Rattle.source.specs.declared.fault.Refusal.{Refusal}
use Rattle.source.specs.declared.fault.Refusal.TheVariants as refusal
use Rattle.source.specs.declared.token.Keyword.{Keyword}
use Rattle.source.specs.declared.token.Keyword.TheVariants.{Lock, Struct, Final, Ref, Int, Global, ProtectedBy, Pool}
use Rattle.source.specs.declared.token.Keyword.TheVariants.{Init, Atomic, Let, Var, If, Else, While, Print, Return}
use Rattle.source.specs.declared.token.Keyword.TheVariants.{Thread, Repeat, Null, Where, Call}
use Rattle.source.specs.declared.token.Sign.{Sign}
use Rattle.source.specs.declared.token.Sign.TheVariants.{OpenBrace, CloseBrace, OpenParen, CloseParen, OpenBracket}
use Rattle.source.specs.declared.token.Sign.TheVariants.{CloseBracket, Semicolon, Comma, Colon, Dot, Equals}
use Rattle.source.specs.declared.token.Sign.TheVariants.{DoubleEquals, NotEquals, Less, LessEquals, Greater}
use Rattle.source.specs.declared.token.Sign.TheVariants.{GreaterEquals, Plus, Minus, Star, Slash, Percent, And, Or}
use Rattle.source.specs.declared.token.Sign.TheVariants.{Not}
use Rattle.source.specs.Tokens.{Lexeme, name, int, word, mark}
use Rattle.source.specs.Faults.{IsBare}
use Rattle.source.specs.Texts.{is_letter, is_digit, is_name_byte, is_white, keyword_text, value_of, NUMBER_LIMIT}
use Rattle.source.specs.Texts.{NAME_LIMIT}
use Rattle.std.specs.Rc.{rc_str_bytes}
use Rattle.lexer.specs.declared.unit.UnitKind.{UnitKind}
use Rattle.lexer.specs.declared.unit.UnitKind.TheVariants as kind
use Rattle.lexer.specs.declared.token_error.TokenError.{TokenError}
use Rattle.lexer.specs.declared.token_error.TokenError.TheVariants.{Bad, NoMemory}

-- ---- stretches

-- the first bytes that pass the test
abbrev pub run_of : (ℕ → Bool) → List ℕ → List ℕ
run_of p [] = []
run_of p (b ∷ bs) = if p b then b ∷ run_of p bs else []

-- the bytes after the first ones that pass the test
abbrev pub after_run : (ℕ → Bool) → List ℕ → List ℕ
after_run p [] = []
after_run p (b ∷ bs) = if p b then after_run p bs else b ∷ bs

-- the bytes after those of the first line
abbrev pub after_line : List ℕ → List ℕ
after_line [] = []
after_line (b ∷ bs) = if b == 10 then b ∷ bs else after_line bs

abbrev pub is_slash : List ℕ → Bool
is_slash [] = false
is_slash (b ∷ bs) = b == 47

-- the bytes after white space and comments, beginning inside a comment or not
abbrev pub skip_in : Bool → List ℕ → List ℕ
skip_in c [] = []
skip_in true (b ∷ bs) = if b == 10 then skip_in false bs else skip_in true bs
skip_in false (b ∷ bs) = if is_white b then skip_in false bs else if (b == 47) && is_slash bs then skip_in true bs else b ∷ bs

abbrev pub skip : List ℕ → List ℕ
skip = skip_in false

-- ---- keywords

-- a hash of a text, which differs for each keyword
abbrev pub slot_of : List ℕ → ℕ
slot_of bs = (3 * slice_index bs 0 + 2 * slice_index bs 2 + 9 * length bs) % 32

-- the keyword of each hash
abbrev pub SLOTS : List Keyword
SLOTS =
    Lock ∷ Var ∷ Lock ∷ Lock ∷ While ∷ Call ∷ Null ∷ Let ∷ Lock ∷ Global ∷ Lock ∷ Lock ∷ Repeat ∷ If ∷ Lock ∷ Print ∷
    Lock ∷ Init ∷ Pool ∷ Struct ∷ Return ∷ Lock ∷ Thread ∷ Atomic ∷ Lock ∷ Else ∷ ProtectedBy ∷ Final ∷ Where ∷ Ref ∷
    Int ∷ Lock ∷ []

abbrev pub if_same : Bool → Keyword → Option Keyword
if_same true w = Some w
if_same false w = None

-- the keyword of this text, if it is one
abbrev pub keyword_of : List ℕ → Option Keyword
keyword_of bs = let w = slice_index_or SLOTS (slot_of bs) Lock in if_same (bytes_eq (keyword_text w) bs) w

-- ---- signs

-- the sign that the table has for this byte
abbrev pub pick : List (ℕ × Sign) → ℕ → Option Sign
pick [] b = None
pick (p ∷ ps) b = if b == p.0 then Some p.1 else pick ps b

-- the signs of one byte
abbrev pub SINGLES : List (ℕ × Sign)
SINGLES =
    (123, OpenBrace) ∷ (125, CloseBrace) ∷ (40, OpenParen) ∷ (41, CloseParen) ∷ (91, OpenBracket) ∷
    (93, CloseBracket) ∷ (59, Semicolon) ∷ (44, Comma) ∷ (58, Colon) ∷ (46, Dot) ∷ (61, Equals) ∷ (60, Less) ∷
    (62, Greater) ∷ (43, Plus) ∷ (45, Minus) ∷ (42, Star) ∷ (47, Slash) ∷ (37, Percent) ∷ (33, Not) ∷ []

-- the signs of two bytes, of which the second is the equals sign
abbrev pub WITH_EQUALS : List (ℕ × Sign)
WITH_EQUALS = (61, DoubleEquals) ∷ (33, NotEquals) ∷ (60, LessEquals) ∷ (62, GreaterEquals) ∷ []

-- the signs of two equal bytes, except `==`
abbrev pub DOUBLED : List (ℕ × Sign)
DOUBLED = (38, And) ∷ (124, Or) ∷ []

unfoldable pub single_of : ℕ → Option Sign
single_of b = pick SINGLES b

unfoldable pub double_of : ℕ → ℕ → Option Sign
double_of a b = if b == 61 then pick WITH_EQUALS a else if a == b then pick DOUBLED a else None

-- ---- units

-- the kind of a token as plain data
abbrev pub seen_kind : UnitKind → Lexeme
seen_kind (kind.Name text) = name (rc_str_bytes text)
seen_kind (kind.Int n) = int n
seen_kind (kind.Word w) = word w
seen_kind (kind.Mark s) = mark s

-- a token of this kind may have this start and end: both fit into 32 bits, and a name is as long as its text
abbrev pub CanStand : Lexeme → ℕ → ℕ → Type 0
CanStand (name text) start end = (start < 2 ^ 32) × (end ≡ start + length text)
CanStand _ start end = (start < 2 ^ 32) × (end < 2 ^ 32)

abbrev pub within : Bool → Lexeme → List ℕ → Code → Result (Lexeme × List ℕ) Code
within true k rest c = Ok (k, rest)
within false k rest c = Err c

abbrev pub name_from : List ℕ → List ℕ → Result (Lexeme × List ℕ) Code
name_from bytes rest = within (nat_le (length bytes) NAME_LIMIT) (name bytes) rest LimitExceeded

abbrev pub word_or_name : Option Keyword → List ℕ → List ℕ → Result (Lexeme × List ℕ) Code
word_or_name (Some w) bytes rest = Ok (word w, rest)
word_or_name None bytes rest = name_from bytes rest

abbrev pub word_at : List ℕ → Result (Lexeme × List ℕ) Code
word_at text = word_or_name (keyword_of (run_of is_name_byte text)) (run_of is_name_byte text) (after_run is_name_byte text)

abbrev pub number_from : ℕ → List ℕ → Result (Lexeme × List ℕ) Code
number_from n rest = within (nat_le n NUMBER_LIMIT) (int n) rest NumberTooLarge

abbrev pub number_at : List ℕ → Result (Lexeme × List ℕ) Code
number_at text = number_from (value_of (run_of is_digit text)) (after_run is_digit text)

abbrev pub sign_or : Option Sign → List ℕ → Result (Lexeme × List ℕ) Code → Result (Lexeme × List ℕ) Code
sign_or (Some s) rest other = Ok (mark s, rest)
sign_or None rest other = other

abbrev pub single_at : ℕ → List ℕ → Result (Lexeme × List ℕ) Code
single_at b rest = sign_or (single_of b) rest (Err BadCharacter)

abbrev pub sign_at : ℕ → List ℕ → Result (Lexeme × List ℕ) Code
sign_at a [] = single_at a []
sign_at a (b ∷ rest) = sign_or (double_of a b) rest (single_at a (b ∷ rest))

-- the token that begins with the first byte, and what follows it
unfoldable pub unit_at : List ℕ → Result (Lexeme × List ℕ) Code
unit_at [] = Err BadCharacter
unit_at (b ∷ bs) = if is_letter b then word_at (b ∷ bs) else if is_digit b then number_at (b ∷ bs) else sign_at b bs

-- the error of a function is that of reading, unless memory ran out
abbrev pub Fails : {Y : Type 0} → TokenError → Result Y Code → Type 0
Fails NoMemory read = Unit {0}
Fails (Bad c) read = read ≡ Err c

abbrev pub Gives : {X Y : Type 0} → (X → Y) → Result X TokenError → Result Y Code → Type 0
Gives view (Ok x) read = read ≡ Ok (view x)
Gives view (Err e) read = Fails e read

-- the refusal for this error of a token that begins at this byte
abbrev pub Refuses : TokenError → ℕ → Refusal → Type 0
Refuses (Bad c) start (refusal.Fault f) = IsBare c start f
Refuses (Bad c) start refusal.NoMemory = ⊥
Refuses NoMemory start e = e ≡ refusal.NoMemory
