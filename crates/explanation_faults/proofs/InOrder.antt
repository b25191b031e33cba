-- The tokens of a text are in order.
use Rattle.std.proofs.Common.{◌≡◌, ℕ, ◌<◌, ◌≤◌, zero, suc, List, [], ◌∷◌, ◌++◌, length, ap, subst, arith, length-append}
use Rattle.source.specs.declared.token.Keyword.{Keyword}
use Rattle.source.specs.declared.token.Keyword.TheVariants as keyword
use Rattle.source.specs.declared.token.Sign.{Sign}
use Rattle.source.specs.declared.token.Sign.TheVariants as sign
use Rattle.source.specs.Texts.{IsGap, no_gap, white, comment, IsUnit, is_name, is_number, is_word, is_mark}
use Rattle.source.specs.Texts.{keyword_text, sign_text, place, tok_at, end_at, AreTokens, at_end, token, HasTokens}
use Rattle.source.specs.Texts.{SOURCE_LIMIT}
use Rattle.source.specs.Tokens.{Lexeme, Tok}
use Rattle.explanation_tokens.specs.Expected.{AreInOrder, IsBehind, StartBefore}

gap_le : {text rest : List ℕ} → IsGap text rest → length rest ≤ length text
gap_le no_gap = omega arith
gap_le (white {b} {text} {rest} w g) = let h = gap_le g in omega arith
gap_le (comment line {text} {rest} all e g) = let h = gap_le g in omega (arith, length-append line text)

word_long : (w : Keyword) → 0 < length (keyword_text w)
word_long keyword.Lock = omega arith
word_long keyword.Struct = omega arith
word_long keyword.Final = omega arith
word_long keyword.Ref = omega arith
word_long keyword.Int = omega arith
word_long keyword.Global = omega arith
word_long keyword.ProtectedBy = omega arith
word_long keyword.Pool = omega arith
word_long keyword.Init = omega arith
word_long keyword.Atomic = omega arith
word_long keyword.Let = omega arith
word_long keyword.Var = omega arith
word_long keyword.If = omega arith
word_long keyword.Else = omega arith
word_long keyword.While = omega arith
word_long keyword.Print = omega arith
word_long keyword.Return = omega arith
word_long keyword.Thread = omega arith
word_long keyword.Repeat = omega arith
word_long keyword.Null = omega arith
word_long keyword.Where = omega arith
word_long keyword.Call = omega arith

sign_long : (s : Sign) → 0 < length (sign_text s)
sign_long sign.OpenBrace = omega arith
sign_long sign.CloseBrace = omega arith
sign_long sign.OpenParen = omega arith
sign_long sign.CloseParen = omega arith
sign_long sign.OpenBracket = omega arith
sign_long sign.CloseBracket = omega arith
sign_long sign.Semicolon = omega arith
sign_long sign.Comma = omega arith
sign_long sign.Colon = omega arith
sign_long sign.Dot = omega arith
sign_long sign.Equals = omega arith
sign_long sign.DoubleEquals = omega arith
sign_long sign.NotEquals = omega arith
sign_long sign.Less = omega arith
sign_long sign.LessEquals = omega arith
sign_long sign.Greater = omega arith
sign_long sign.GreaterEquals = omega arith
sign_long sign.Plus = omega arith
sign_long sign.Minus = omega arith
sign_long sign.Star = omega arith
sign_long sign.Slash = omega arith
sign_long sign.Percent = omega arith
sign_long sign.And = omega arith
sign_long sign.Or = omega arith
sign_long sign.Not = omega arith

unit_long : {bytes : List ℕ} {k : Lexeme} → IsUnit bytes k → 0 < length bytes
unit_long (is_name a b c) = omega arith
unit_long (is_number a) = omega arith
unit_long (is_word w) = word_long w
unit_long (is_mark s) = sign_long s

begins_before : (b : Tok) (bs : List Tok) (start : ℕ) → b.span.start < start → StartBefore bs start →
    StartBefore (b ∷ bs) start
begins_before b bs start early rest zero d lt = early
begins_before b bs start early rest (suc k) d lt = rest k d (omega arith)

-- in the remaining text, the tokens before `t` begin before it, and `t` begins at `from` or later
record Orders (total from : ℕ) (before : List Tok) (t : Tok) : Type 0 where
  pub later : from ≤ t.span.start
  pub within : t.span.start ≤ total
  pub rise : StartBefore before t.span.start

order_of : (total : ℕ) (before : List Tok) (t : Tok) (after : List Tok) {text : List ℕ} {ts : List Tok} →
    AreTokens total text ts → length text ≤ total →
    ts ≡ before ++ t ∷ after → Orders total (place total text) before t
order_of total [] t after (at_end {text} g) le parts =
    let same : t ≡ end_at total = cc in
    let at : t.span.start ≡ total = ap (λ (x : Tok). x.span.start) same in
    record { later = omega arith; within = omega arith; rise = λ k d lt. absurd (omega arith) }
order_of total (b ∷ []) t after (at_end g) le parts = cc
order_of total (b ∷ c ∷ bs) t after (at_end g) le parts = cc
order_of total [] t after (token {text} {bytes} {rest} {k} n w more) le parts =
    let same : t ≡ tok_at total bytes rest k = cc in
    let at : t.span.start ≡ place total (bytes ++ rest) = ap (λ (x : Tok). x.span.start) same in
    let gap = gap_le n.gap in
    record { later = omega (arith, at, gap); within = omega (arith, at); rise = λ j d lt. absurd (omega arith) }
order_of total (b ∷ bs) t after (token {text} {bytes} {rest} {k} {ts} n w more) le parts =
    let same : b ≡ tok_at total bytes rest k = cc in
    let at : b.span.start ≡ place total (bytes ++ rest) = ap (λ (x : Tok). x.span.start) same in
    let others : ts ≡ bs ++ t ∷ after = cc in
    let gap = gap_le n.gap in
    let long = unit_long n.unit in
    let sum = length-append bytes rest in
    let rest_of = order_of total bs t after more (omega (arith, gap, sum)) others in
    record {
      later = omega (arith, rest_of.later, gap, sum);
      within = rest_of.within;
      rise = begins_before b bs t.span.start (omega (arith, at, rest_of.later, gap, long, sum)) rest_of.rise;
    }

pub are_in_order : (text : List ℕ) (ts : List Tok) (start : ℕ) (before : List Tok) → length text ≤ SOURCE_LIMIT →
    HasTokens text ts → IsBehind ts start before →
    AreInOrder ts start
are_in_order text ts start before few has at =
    let first = order_of (length text) before at.token at.after has (omega arith) at.parts in
    record {
      low = omega (arith, first.within, at.place);
      rise = λ bs behind.
          let found = order_of (length text) bs behind.token behind.after has (omega arith) behind.parts in
          subst (StartBefore bs) behind.place found.rise;
    }
