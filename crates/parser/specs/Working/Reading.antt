-- Reading from left to right, up to the first fault: what the functions of this crate compute for single tokens and
-- lists.
use Rattle.std.specs.Prelude.{◌≡◌, ℕ, zero, suc, Bool, true, false, List, [], ◌∷◌, length, Option, Some, None, Result}
use Rattle.std.specs.Prelude.{Ok, Err, ◌==◌, if◌then◌else◌}
use Rattle.source.specs.declared.span.Span.{Span}
use Rattle.source.specs.declared.token.Keyword.{Keyword}
use Rattle.source.specs.declared.token.Keyword.TheVariants.{Lock, Struct, Final, Ref, Int, Global, ProtectedBy, Pool}
use Rattle.source.specs.declared.token.Keyword.TheVariants.{Init, Atomic, Let, Var, If, Else, While, Print, Return}
use Rattle.source.specs.declared.token.Keyword.TheVariants.{Thread, Repeat, Null, Where, Call}
use Rattle.source.specs.declared.token.Sign.{Sign}
use Rattle.source.specs.declared.token.Sign.TheVariants.{OpenBrace, CloseBrace, OpenParen, CloseParen, OpenBracket}
use Rattle.source.specs.declared.token.Sign.TheVariants.{CloseBracket, Semicolon, Comma, Colon, Dot, Equals}
use Rattle.source.specs.declared.token.Sign.TheVariants.{DoubleEquals, NotEquals, Less, LessEquals, Greater}
use Rattle.source.specs.declared.token.Sign.TheVariants.{GreaterEquals, Plus, Minus, Star, Slash, Percent, And, Or}
use Rattle.source.specs.declared.token.Sign.TheVariants.{Not}
use Rattle.source.specs.Tokens.{Lexeme, name, word, mark, end, Tok}
use Rattle.source.specs.Tokens as lexeme
use Rattle.source.specs.declared.token.Number.{Number}
use Rattle.syntax.specs.Trees.{Ident}
use Rattle.parser.specs.declared.stop.Stop.{Stop}
use Rattle.parser.specs.declared.stop.Stop.TheVariants.{Unexpected, TooDeep, NoMemory}

infixl 10 ◌>>=◌
abbrev pub ◌>>=◌ : {A B : Type 0} → Result A Stop → (A → Result B Stop) → Result B Stop
(Ok x) >>= f = f x
(Err e) >>= f = Err e

-- the error of a function is that of reading, unless memory ran out
abbrev pub Fails : {Y : Type 0} → Stop → Result Y Stop → Type 0
Fails NoMemory read = Unit {0}
Fails (Unexpected left) read = read ≡ Err (Unexpected left)
Fails (TooDeep left) read = read ≡ Err (TooDeep left)

abbrev pub Gives : {X Y : Type 0} → (X → Y) → Result X Stop → Result Y Stop → Type 0
Gives view (Ok x) read = read ≡ Ok (view x)
Gives view (Err e) read = Fails e read

-- a reader: for tokens, a value with the tokens after it, or the reason why it stops
abbrev pub Reader : Type 0 → Type 0
Reader A = List Tok → Result (A × List Tok) Stop

-- ---- repetition

-- reads the next item; none at the end of the items
abbrev pub Next : Type 0 → Type 0
Next A = List Tok → Option (Result (A × List Tok) Stop)

-- an item and those after it, if there is a next item
abbrev pub turn : {A L : Type 0} → L → (A → L → L) → Reader L → Option (Result (A × List Tok) Stop) → Reader L
turn nil cons more None ts = Ok (nil, ts)
turn nil cons more (Some item) ts = do
  x ← item
  l ← more x.1
  Ok (cons x.0 l.0, l.1)

-- reads items in at most this many turns, a number that is never used up
abbrev pub many_in : {A L : Type 0} → L → (A → L → L) → Next A → ℕ → Reader L
many_in nil cons next zero ts = Ok (nil, ts)
many_in nil cons next (suc n) ts = turn nil cons (many_in nil cons next n) (next ts) ts

-- reads items up to their end
unfoldable pub many_at : {A L : Type 0} → L → (A → L → L) → Next A → Reader L
many_at nil cons next ts = many_in nil cons next (suc (length ts)) ts

-- ---- single tokens

abbrev pub sign_code : Sign → ℕ
sign_code OpenBrace = 0
sign_code CloseBrace = 1
sign_code OpenParen = 2
sign_code CloseParen = 3
sign_code OpenBracket = 4
sign_code CloseBracket = 5
sign_code Semicolon = 6
sign_code Comma = 7
sign_code Colon = 8
sign_code Dot = 9
sign_code Equals = 10
sign_code DoubleEquals = 11
sign_code NotEquals = 12
sign_code Less = 13
sign_code LessEquals = 14
sign_code Greater = 15
sign_code GreaterEquals = 16
sign_code Plus = 17
sign_code Minus = 18
sign_code Star = 19
sign_code Slash = 20
sign_code Percent = 21
sign_code And = 22
sign_code Or = 23
sign_code Not = 24

abbrev pub same_sign : Sign → Sign → Bool
same_sign a b = sign_code a == sign_code b

abbrev pub is_sign : Sign → Lexeme → Bool
is_sign s (mark m) = same_sign m s
is_sign s _ = false

-- a reader that looks at the first token
abbrev pub first_at : {A : Type 0} → (Lexeme → Span → Reader A) → Reader A
first_at f [] = Err (Unexpected 0)
first_at f (t ∷ ts) = f t.kind t.span ts

-- stops at the token before these, which is unexpected
abbrev pub refused : {A : Type 0} → Reader A
refused ts = Err (Unexpected (suc (length ts)))

-- stops at the opening sign before these, which is too deep
abbrev pub too_deep : {A : Type 0} → Reader A
too_deep ts = Err (TooDeep (suc (length ts)))

abbrev pub sign_from : Sign → Lexeme → Span → Reader Span
sign_from s k at ts = if is_sign s k then Ok (at, ts) else refused ts

unfoldable pub sign_at : Sign → Reader Span
sign_at s = first_at (sign_from s)

-- an opening sign, if `room` more may be opened
abbrev pub opened : ℕ → Span → Reader Span
opened zero at ts = too_deep ts
opened (suc room) at ts = Ok (at, ts)

abbrev pub open_from : Sign → ℕ → Lexeme → Span → Reader Span
open_from s room k at ts = if is_sign s k then opened room at ts else refused ts

unfoldable pub open_at : Sign → ℕ → Reader Span
open_at s room = first_at (open_from s room)

abbrev pub keyword_code : Keyword → ℕ
keyword_code Lock = 0
keyword_code Struct = 1
keyword_code Final = 2
keyword_code Ref = 3
keyword_code Int = 4
keyword_code Global = 5
keyword_code ProtectedBy = 6
keyword_code Pool = 7
keyword_code Init = 8
keyword_code Atomic = 9
keyword_code Let = 10
keyword_code Var = 11
keyword_code If = 12
keyword_code Else = 13
keyword_code While = 14
keyword_code Print = 15
keyword_code Return = 16
keyword_code Thread = 17
keyword_code Repeat = 18
keyword_code Null = 19
keyword_code Where = 20
keyword_code Call = 21

abbrev pub same_keyword : Keyword → Keyword → Bool
same_keyword a b = keyword_code a == keyword_code b

abbrev pub word_from : Keyword → Lexeme → Span → Reader Span
word_from w (word v) at ts = if same_keyword v w then Ok (at, ts) else refused ts
word_from w _ at ts = refused ts

unfoldable pub word_at : Keyword → Reader Span
word_at w = first_at (word_from w)

abbrev pub name_from : Lexeme → Span → Reader Ident
name_from (name x) at ts = Ok (record { text = x; span = at }, ts)
name_from _ at ts = refused ts

unfoldable pub name_at : Reader Ident
name_at = first_at name_from

abbrev pub int_from : Lexeme → Span → Reader Number
int_from (lexeme.int n) at ts = Ok (record { value = n; span = at }, ts)
int_from _ at ts = refused ts

unfoldable pub int_at : Reader Number
int_at = first_at int_from

-- ---- looking at the next token

abbrev pub same_kind : Lexeme → Lexeme → Bool
same_kind (mark m) (mark s) = same_sign m s
same_kind (word v) (word w) = same_keyword v w
same_kind end end = true
same_kind _ _ = false

-- whether a token of this kind comes next
abbrev pub is_next : Lexeme → List Tok → Bool
is_next k [] = false
is_next k (t ∷ ts) = same_kind t.kind k

-- the tokens after the sign, if it comes next
unfoldable pub skip_at : Sign → List Tok → Option (List Tok)
skip_at s [] = None
skip_at s (t ∷ ts) = if is_sign s t.kind then Some ts else None

-- ---- parts that may be left out, and lists

-- items up to a token of this kind
abbrev pub next_unless : {A : Type 0} → Bool → Result (A × List Tok) Stop → Option (Result (A × List Tok) Stop)
next_unless true item = None
next_unless false item = Some item

abbrev pub next_until : {A : Type 0} → Lexeme → Reader A → Next A
next_until k item ts = next_unless (is_next k ts) (item ts)

-- an item after the sign, if that comes next
abbrev pub behind : {A : Type 0} → Reader A → Option (List Tok) → Option (Result (A × List Tok) Stop)
behind item None = None
behind item (Some ts) = Some (item ts)

abbrev pub next_after : {A : Type 0} → Sign → Reader A → Next A
next_after s item ts = behind item (skip_at s ts)

-- items, each after the sign
unfoldable pub after_each : {A : Type 0} → Sign → Reader A → Reader (List A)
after_each s item = many_at [] ◌∷◌ (next_after s item)

-- items with commas between them, up to a closing parenthesis
abbrev pub listed_from : {A : Type 0} → Reader A → Bool → Reader (List A)
listed_from item true ts = Ok ([], ts)
listed_from item false ts = do
  x ← item ts
  more ← after_each Comma item x.1
  Ok (x.0 ∷ more.0, more.1)

unfoldable pub listed_at : {A : Type 0} → Reader A → Reader (List A)
listed_at item ts = listed_from item (is_next (mark CloseParen) ts) ts

-- a part that begins with a token of this kind, or nothing
abbrev pub maybe_from : {A : Type 0} → Reader A → Bool → Reader (Option A)
maybe_from part false ts = Ok (None, ts)
maybe_from part true ts = do
  x ← part ts
  Ok (Some x.0, x.1)

unfoldable pub maybe_at : {A : Type 0} → Lexeme → Reader A → Reader (Option A)
maybe_at k part ts = maybe_from part (is_next k ts) ts

-- a part after a sign
unfoldable pub after_at : {A : Type 0} → Sign → Reader A → Reader A
after_at s part ts = do
  at ← sign_at s ts
  x ← part at.1
  Ok (x.0, x.1)

-- one part or another, by whether a token of this kind comes next
abbrev pub chosen : {A : Type 0} → Reader A → Reader A → Bool → Reader A
chosen f g true ts = f ts
chosen f g false ts = g ts

unfoldable pub choose : {A : Type 0} → Lexeme → Reader A → Reader A → Reader A
choose k f g ts = chosen f g (is_next k ts) ts

-- ---- a part and the sign after it

-- a part and the sign after it
abbrev pub closed_at : {A : Type 0} → Sign → Reader A → Reader A
closed_at s part ts = do
  x ← part ts
  sign ← sign_at s x.1
  Ok (x.0, sign.1)

-- a part that is read already
abbrev pub given : {A : Type 0} → A → Reader A
given x ts = Ok (x, ts)

-- reads the sign after a part that was read; `see` has the tokens after the part
abbrev pub closing : {A R : Type 0} → Sign → (R → List Tok) → Result (A × R) Stop → Result (A × List Tok) Stop
closing s see read = do
  x ← read
  closed_at s (given x.0) (see x.1)
