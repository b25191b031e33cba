-- Tokens one after another in a text.
use Rattle.std.proofs.Common.{◌≡◌, ℕ, ◌+◌, ◌-◌, ◌*◌, ◌/◌, ◌%◌, ◌<◌, ◌≤◌, Bool, true, false, List, [], ◌∷◌, ◌++◌, length}
use Rattle.std.proofs.Common.{refl, sym, ◌∙◌, subst, arith, length-append}
use Rattle.std.specs.Prelude.{◌==◌, ◌&&◌, ◌||◌, not}
use Rattle.std.specs.List.{list_all}
use Rattle.std.specs.Fmt.{decimal}
use Rattle.std.proofs.lemmas.Bool.Decides.{nat_tests}
use Rattle.std.proofs.lemmas.Fmt.{decimal_by_steps}
use Rattle.std.proofs.lemmas.List.Folds.{list_all-append}
use Rattle.std.proofs.lemmas.List.Sums.{fold-append}
use Rattle.std.proofs.lemmas.Bool.{and_parts}
use Rattle.source.specs.declared.token.Keyword.{Keyword}
use Rattle.source.specs.declared.token.Keyword.TheVariants.{Lock, Struct, Final, Ref, Int, Global, ProtectedBy, Pool}
use Rattle.source.specs.declared.token.Keyword.TheVariants.{Init, Atomic, Let, Var, If, Else, While, Print, Return}
use Rattle.source.specs.declared.token.Keyword.TheVariants.{Thread, Repeat, Null, Where, Call}
use Rattle.source.specs.declared.token.Sign.{Sign}
use Rattle.source.specs.declared.token.Sign.TheVariants.{OpenBrace, CloseBrace, OpenParen, CloseParen, OpenBracket}
use Rattle.source.specs.declared.token.Sign.TheVariants.{CloseBracket, Semicolon, Comma, Colon, Dot, Equals}
use Rattle.source.specs.declared.token.Sign.TheVariants.{DoubleEquals, NotEquals, Less, LessEquals, Greater}
use Rattle.source.specs.declared.token.Sign.TheVariants.{GreaterEquals, Plus, Minus, Star, Slash, Percent, And, Or, Not}
use Rattle.source.specs.Tokens.{Lexeme, name, int, mark, Tok}
use Rattle.source.specs.Texts.{is_letter, is_digit, is_name_byte, is_white, keyword_text, sign_text, value_of, IsUnit}
use Rattle.source.specs.Texts.{is_name, is_number, is_word, is_mark, IsLongest, NUMBER_LIMIT, IsWithin, no_gap, white}
use Rattle.source.specs.Texts.{BeginsComment, tok_at, AreTokens, at_end, token}

-- ---- which bytes follow the first one of a unit

abbrev pub is_tail : ℕ → Bool
is_tail b = is_name_byte b || (b == 61) || (b == 38) || (b == 124)

-- `(`, `[`, `.` and `-`, which no byte can follow
abbrev pub is_lone : ℕ → Bool
is_lone b = (b == 40) || (b == 91) || (b == 46) || (b == 45)

-- and `=` or nothing follows `!`
abbrev is_joined : ℕ → List ℕ → Bool
is_joined b [] = true
is_joined b (c ∷ bs) = not (is_lone b) && (not (b == 33) || (c == 61))

abbrev unit_test : List ℕ → Bool
unit_test [] = false
unit_test (b ∷ bs) = list_all is_tail bs && is_joined b bs

keyword_test : (w : Keyword) → unit_test (keyword_text w) ≡ true
keyword_test Lock = refl
keyword_test Struct = refl
keyword_test Final = refl
keyword_test Ref = refl
keyword_test Int = refl
keyword_test Global = refl
keyword_test ProtectedBy = refl
keyword_test Pool = refl
keyword_test Init = refl
keyword_test Atomic = refl
keyword_test Let = refl
keyword_test Var = refl
keyword_test If = refl
keyword_test Else = refl
keyword_test While = refl
keyword_test Print = refl
keyword_test Return = refl
keyword_test Thread = refl
keyword_test Repeat = refl
keyword_test Null = refl
keyword_test Where = refl
keyword_test Call = refl

sign_test : (s : Sign) → unit_test (sign_text s) ≡ true
sign_test OpenBrace = refl
sign_test CloseBrace = refl
sign_test OpenParen = refl
sign_test CloseParen = refl
sign_test OpenBracket = refl
sign_test CloseBracket = refl
sign_test Semicolon = refl
sign_test Comma = refl
sign_test Colon = refl
sign_test Dot = refl
sign_test Equals = refl
sign_test DoubleEquals = refl
sign_test NotEquals = refl
sign_test Less = refl
sign_test LessEquals = refl
sign_test Greater = refl
sign_test GreaterEquals = refl
sign_test Plus = refl
sign_test Minus = refl
sign_test Star = refl
sign_test Slash = refl
sign_test Percent = refl
sign_test And = refl
sign_test Or = refl
sign_test Not = refl

name_tail : (b : ℕ) → is_name_byte b ≡ true → is_tail b ≡ true
name_tail b h = rw h refl

digit_name : (b : ℕ) → is_digit b ≡ true → is_name_byte b ≡ true
digit_name b h = grind (arith, nat_tests)

all_more : (p q : ℕ → Bool) → ((b : ℕ) → p b ≡ true → q b ≡ true) → (bs : List ℕ) → list_all p bs ≡ true →
    list_all q bs ≡ true
all_more p q h [] e = refl
all_more p q h (b ∷ bs) e = let s = and_parts (p b) (list_all p bs) e in rw (h b s.0, all_more p q h bs s.1) refl

not_lone : (b : ℕ) → is_name_byte b ≡ true → is_lone b ≡ false
not_lone b h = grind (arith, nat_tests)

not_not : (b : ℕ) → is_name_byte b ≡ true → (b == 33) ≡ false
not_not b h = grind (arith, nat_tests)

named_joined : (b : ℕ) (bs : List ℕ) → is_name_byte b ≡ true → is_joined b bs ≡ true
named_joined b [] h = refl
named_joined b (c ∷ bs) h = rw (not_lone b h, not_not b h) refl

named_test : (b : ℕ) (bs : List ℕ) → is_name_byte b ≡ true → list_all is_tail bs ≡ true → unit_test (b ∷ bs) ≡ true
named_test b bs h all = rw (all, named_joined b bs h) refl

letter_name : (b : ℕ) → is_letter b ≡ true → is_name_byte b ≡ true
letter_name b h = rw h refl

test_unit : {bytes : List ℕ} {k : Lexeme} → IsUnit bytes k → unit_test bytes ≡ true
test_unit (is_name {b} {bs} letter all none) = named_test b bs (letter_name b letter) (all_more is_name_byte is_tail name_tail bs all)
test_unit (is_number {b} {bs} all) = let s = and_parts (is_digit b) (list_all is_digit bs) all in named_test b bs (digit_name b s.0) (all_more is_digit is_tail (λ c h. name_tail c (digit_name c h)) bs s.1)
test_unit (is_word w) = keyword_test w
test_unit (is_mark s) = sign_test s

-- ---- tokens that may follow any token

abbrev pub is_apart : ℕ → Bool
is_apart b = not (is_tail b) && not (b == 47)

abbrev pub Apart : List ℕ → Type 0
Apart [] = Unit {0}
Apart (b ∷ bs) = is_apart b ≡ true

not_true : (b : Bool) → not b ≡ true → b ≡ false
not_true true e = absurd cc
not_true false e = refl

apart_longest : (bytes tail : List ℕ) (k : Lexeme) → IsUnit bytes k → Apart tail → IsLongest bytes tail
apart_longest [] tail k u h = let t = test_unit u in absurd cc
apart_longest (b ∷ bs) tail k u h = λ c more other l e v.
    let t = and_parts (list_all is_tail (bs ++ c ∷ more)) (is_joined b (bs ++ c ∷ more)) (test_unit v) in
    let s = and_parts (list_all is_tail bs) (list_all is_tail (c ∷ more)) (sym (list_all-append is_tail bs (c ∷ more)) ∙ t.0) in
    let first = and_parts (is_tail c) (list_all is_tail more) s.1 in
    let a = and_parts (not (is_tail c)) (not (c == 47)) (subst Apart e h) in
    let p : is_tail c ≡ true = first.0 in
    let q : is_tail c ≡ false = not_true (is_tail c) a.0 in
    absurd cc

apart_no_comment : (bytes tail : List ℕ) (k : Lexeme) → IsUnit bytes k → Apart tail → BeginsComment (bytes ++ tail) → ⊥
apart_no_comment [] tail k u h c = let t = test_unit u in absurd cc
apart_no_comment (b ∷ []) tail k u h c =
    let e : tail ≡ 47 ∷ c.0 = let q = c.1 in cc in
    let a : is_apart 47 ≡ true = subst Apart e h in
    absurd cc
apart_no_comment (b ∷ d ∷ bs) tail k u h c =
    let e : d ≡ 47 = let q = c.1 in cc in
    let t = and_parts (list_all is_tail (d ∷ bs)) (is_joined b (d ∷ bs)) (test_unit u) in
    let s = and_parts (is_tail d) (list_all is_tail bs) t.0 in
    let f : is_tail 47 ≡ true = subst (λ x. is_tail x ≡ true) e s.0 in
    absurd cc

pub put : (total : ℕ) (bytes tail : List ℕ) (k : Lexeme) (us : List Tok) → IsUnit bytes k → IsWithin k → Apart tail →
    AreTokens total tail us → AreTokens total (bytes ++ tail) (tok_at total bytes tail k ∷ us)
put total bytes tail k us u w a h = token (record { gap = no_gap; no_comment = apart_no_comment bytes tail k u a; unit = u; longest = apart_longest bytes tail k u a }) w h

-- ---- signs that a name may follow

lone_longest : (b : ℕ) (tail : List ℕ) → is_lone b ≡ true → IsLongest (b ∷ []) tail
lone_longest b tail lone = λ c more other l e v.
    let t = and_parts (list_all is_tail (c ∷ more)) (is_joined b (c ∷ more)) (test_unit v) in
    let j = and_parts (not (is_lone b)) (not (b == 33) || (c == 61)) t.1 in
    let f : is_lone b ≡ false = not_true (is_lone b) j.0 in
    absurd cc

lone_no_comment : (b : ℕ) (tail : List ℕ) → is_lone b ≡ true → BeginsComment (b ∷ tail) → ⊥
lone_no_comment b tail lone c =
    let e : b ≡ 47 = let q = c.1 in cc in
    let f : is_lone 47 ≡ true = subst (λ x. is_lone x ≡ true) e lone in
    absurd cc

pub put_lone : (total b : ℕ) (tail : List ℕ) (k : Lexeme) (us : List Tok) → is_lone b ≡ true → IsUnit (b ∷ []) k →
    IsWithin k → AreTokens total tail us → AreTokens total (b ∷ tail) (tok_at total (b ∷ []) tail k ∷ us)
put_lone total b tail k us lone u w h = token (record { gap = no_gap; no_comment = lone_no_comment b tail lone; unit = u; longest = lone_longest b tail lone }) w h

-- a text that begins with a byte other than `=`
abbrev pub Begins : List ℕ → Type 0
Begins [] = ⊥
Begins (b ∷ bs) = (b == 61) ≡ false

not_longest : (tail : List ℕ) → Begins tail → IsLongest (33 ∷ []) tail
not_longest [] h = absurd h
not_longest (d ∷ tail) h = λ c more other l e v.
    let t = and_parts (list_all is_tail (c ∷ more)) (c == 61) (test_unit v) in
    let q : d ≡ c = cc in
    let p : (c == 61) ≡ false = subst (λ x. (x == 61) ≡ false) q h in
    let r : (c == 61) ≡ true = t.1 in
    absurd cc

pub put_not : (total : ℕ) (tail : List ℕ) (us : List Tok) → Begins tail → AreTokens total tail us →
    AreTokens total (33 ∷ tail) (tok_at total (33 ∷ []) tail (mark Not) ∷ us)
put_not total tail us b h = token (record { gap = no_gap; no_comment = λ c. let q = c.1 in absurd cc; unit = is_mark Not; longest = not_longest tail b }) tt h

letter_begins : (b : ℕ) → is_letter b ≡ true → (b == 61) ≡ false
letter_begins b h = grind (arith, nat_tests)

digit_begins : (b : ℕ) → is_digit b ≡ true → (b == 61) ≡ false
digit_begins b h = grind (arith, nat_tests)

pub name_begins : {bytes x : List ℕ} → IsUnit bytes (name x) → Begins bytes
name_begins (is_name {b} {bs} letter all none) = letter_begins b letter

pub number_begins : {bytes : List ℕ} {n : ℕ} → IsUnit bytes (int n) → Begins bytes
number_begins (is_number {b} {bs} all) = let s = and_parts (is_digit b) (list_all is_digit bs) all in digit_begins b s.0

pub space : (total b : ℕ) (tail : List ℕ) (us : List Tok) → is_white b ≡ true → AreTokens total tail us →
    AreTokens total (b ∷ tail) us
space total b tail us w (at_end g) = at_end (white w g)
space total b tail us w (token n l h) = token (record { gap = white w n.gap; no_comment = n.no_comment; unit = n.unit; longest = n.longest }) l h

-- ---- numbers

record IsDecimal (n : ℕ) (ds : List ℕ) : Type 0 where
  digits : list_all is_digit ds ≡ true
  value : value_of ds ≡ n
  some : 0 < length ds

one_digit : (n : ℕ) → n < 10 → IsDecimal n ((48 + n) ∷ [])
one_digit n h = record { digits = let d : is_digit (48 + n) ≡ true = grind (arith, nat_tests) in rw d refl; value = omega arith; some = omega arith }

more_digits : (n : ℕ) (ds : List ℕ) → 10 ≤ n → IsDecimal (n / 10) ds → IsDecimal n (ds ++ ((48 + n % 10) ∷ []))
more_digits n ds h d = record {
  digits = let e : is_digit (48 + n % 10) ≡ true = grind (arith, nat_tests) in list_all-append is_digit ds ((48 + n % 10) ∷ []) ∙ rw (d.digits, e) refl;
  value = fold-append (λ (m b : ℕ). m * 10 + (b - 48)) 0 ds ((48 + n % 10) ∷ []) ∙ (let v : value_of ds ≡ n / 10 = d.value in omega arith);
  some = simp length-append (omega arith);
}

pub decimal_unit : (n : ℕ) → n ≤ NUMBER_LIMIT → IsUnit (decimal n) (int n)
decimal_unit n h = at_digits (decimal n) (decimal_by_steps IsDecimal one_digit more_digits n (omega arith))
  where
    at_digits : (ds : List ℕ) → IsDecimal n ds → IsUnit ds (int n)
    at_digits [] d = absurd (omega (arith, d.some))
    at_digits (b ∷ bs) d = subst (λ v. IsUnit (b ∷ bs) (int v)) d.value (is_number d.digits)
