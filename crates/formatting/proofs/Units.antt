-- The bytes of tokens, and which tokens may touch.
use Rattle.std.proofs.Common.{◌≡◌, ℕ, Bool, true, false, cond, List, [], ◌∷◌, ◌++◌, refl, sym, ◌∙◌, subst, arith}
use Rattle.std.specs.Prelude.{not, ◌&&◌, ◌||◌, ◌==◌}
use Rattle.std.specs.List.{list_all}
use Rattle.std.proofs.lemmas.Bool.Decides.{nat_tests}
use Rattle.std.proofs.lemmas.Bool.{and_parts}
use Rattle.std.proofs.lemmas.List.Folds.{list_all-append}
use Rattle.source.specs.declared.token.Keyword.{Keyword}
use Rattle.source.specs.declared.token.Keyword.TheVariants.{Lock, Struct, Final, Ref, Int, Global, ProtectedBy, Pool}
use Rattle.source.specs.declared.token.Keyword.TheVariants.{Init, Atomic, Let, Var, If, Else, While, Print, Return}
use Rattle.source.specs.declared.token.Keyword.TheVariants.{Thread, Repeat, Null, Where, Call}
use Rattle.source.specs.declared.token.Sign.{Sign}
use Rattle.source.specs.declared.token.Sign.TheVariants.{OpenBrace, CloseBrace, OpenParen, CloseParen, OpenBracket}
use Rattle.source.specs.declared.token.Sign.TheVariants.{CloseBracket, Semicolon, Comma, Colon, Dot, Equals}
use Rattle.source.specs.declared.token.Sign.TheVariants.{DoubleEquals, NotEquals, Less, LessEquals, Greater}
use Rattle.source.specs.declared.token.Sign.TheVariants.{GreaterEquals, Plus, Minus, Star, Slash, Percent, And, Or}
use Rattle.source.specs.declared.token.Sign.TheVariants.{Not}
use Rattle.source.specs.Tokens.{Lexeme}
use Rattle.source.specs.Texts.{is_letter, is_digit, is_name_byte, is_white, keyword_text, sign_text, BeginsComment}
use Rattle.source.specs.Texts.{IsUnit, is_name, is_number, is_word, is_mark, IsLongest}
use Rattle.formatting.specs.Layout.{is_second, is_apart}

-- letters and digits alone; or a sign, whose first byte is followed only by bytes that may be its second
abbrev pub is_unit_text : List ℕ → Bool
is_unit_text [] = false
is_unit_text (a ∷ xs) = not (is_white a) && (cond (is_name_byte a) (list_all is_name_byte xs) (list_all is_second xs))

keyword_is : (w : Keyword) → is_unit_text (keyword_text w) ≡ true
keyword_is Lock = refl
keyword_is Struct = refl
keyword_is Final = refl
keyword_is Ref = refl
keyword_is Int = refl
keyword_is Global = refl
keyword_is ProtectedBy = refl
keyword_is Pool = refl
keyword_is Init = refl
keyword_is Atomic = refl
keyword_is Let = refl
keyword_is Var = refl
keyword_is If = refl
keyword_is Else = refl
keyword_is While = refl
keyword_is Print = refl
keyword_is Return = refl
keyword_is Thread = refl
keyword_is Repeat = refl
keyword_is Null = refl
keyword_is Where = refl
keyword_is Call = refl

sign_is : (s : Sign) → is_unit_text (sign_text s) ≡ true
sign_is OpenBrace = refl
sign_is CloseBrace = refl
sign_is OpenParen = refl
sign_is CloseParen = refl
sign_is OpenBracket = refl
sign_is CloseBracket = refl
sign_is Semicolon = refl
sign_is Comma = refl
sign_is Colon = refl
sign_is Dot = refl
sign_is Equals = refl
sign_is DoubleEquals = refl
sign_is NotEquals = refl
sign_is Less = refl
sign_is LessEquals = refl
sign_is Greater = refl
sign_is GreaterEquals = refl
sign_is Plus = refl
sign_is Minus = refl
sign_is Star = refl
sign_is Slash = refl
sign_is Percent = refl
sign_is And = refl
sign_is Or = refl
sign_is Not = refl

letter_no_white : (b : ℕ) → is_letter b ≡ true → is_white b ≡ false
letter_no_white b h = grind (arith, nat_tests)

digit_no_white : (b : ℕ) → is_digit b ≡ true → is_white b ≡ false
digit_no_white b h = grind (arith, nat_tests)

digit_no_letter : (b : ℕ) → is_digit b ≡ true → is_letter b ≡ false
digit_no_letter b h = grind (arith, nat_tests)

letter_in_name : (b : ℕ) → is_letter b ≡ true → is_name_byte b ≡ true
letter_in_name b h = rw h refl

digit_in_name : (b : ℕ) → is_digit b ≡ true → is_name_byte b ≡ true
digit_in_name b h = rw (digit_no_letter b h, h) refl

digits_in_name : (bs : List ℕ) → list_all is_digit bs ≡ true → list_all is_name_byte bs ≡ true
digits_in_name [] h = refl
digits_in_name (b ∷ bs) h = let p = and_parts (is_digit b) (list_all is_digit bs) h in rw (digit_in_name b p.0, digits_in_name bs p.1) refl

pub unit_is : {bytes : List ℕ} {k : Lexeme} → IsUnit bytes k → is_unit_text bytes ≡ true
unit_is (is_name {b} {bs} letter all never) = rw (letter_no_white b letter, letter_in_name b letter, all) refl
unit_is (is_number {b} {bs} all) =
    let p = and_parts (is_digit b) (list_all is_digit bs) all in
    rw (digit_no_white b p.0, digit_in_name b p.0, digits_in_name bs p.1) refl
unit_is (is_word w) = keyword_is w
unit_is (is_mark s) = sign_is s

-- a token has a first byte, which is not white space
pub record Begins (bytes : List ℕ) : Type 0 where
  pub first : ℕ
  pub more : List ℕ
  pub is : bytes ≡ first ∷ more
  pub no_white : is_white first ≡ false
  pub tail : cond (is_name_byte first) (list_all is_name_byte more) (list_all is_second more) ≡ true

not_true : (b : Bool) → not b ≡ true → b ≡ false
not_true true e = absurd cc
not_true false e = refl

begins : (bytes : List ℕ) → is_unit_text bytes ≡ true → Begins bytes
begins [] e = absurd cc
begins (b ∷ bs) e =
    let p = and_parts (not (is_white b)) (cond (is_name_byte b) (list_all is_name_byte bs) (list_all is_second bs)) e in
    record { first = b; more = bs; is = refl; no_white = not_true (is_white b) p.0; tail = p.1 }

pub unit_begins : {bytes : List ℕ} {k : Lexeme} → IsUnit bytes k → Begins bytes
unit_begins {bytes = bytes} u = begins bytes (unit_is u)

-- no byte that would make the token longer follows a token that begins with this byte
abbrev pub Parts : ℕ → List ℕ → Type 0
Parts a [] = Unit {0}
Parts a (b ∷ bs) = is_apart a b ≡ true

-- a byte further on in a token
middle : (p : ℕ → Bool) (xs : List ℕ) (b : ℕ) (more : List ℕ) → list_all p (xs ++ b ∷ more) ≡ true → p b ≡ true
middle p xs b more h =
    let q = and_parts (list_all p xs) (list_all p (b ∷ more)) (sym (list_all-append p xs (b ∷ more)) ∙ h) in
    (and_parts (p b) (list_all p more) q.1).0

apart_parts : (a b : ℕ) → is_apart a b ≡ true →
    ((is_second b || (b == 47)) ≡ false) × ((is_name_byte b && is_name_byte a) ≡ false)
apart_parts a b h =
    let p = and_parts (not (is_second b || (b == 47))) (not (is_name_byte b && is_name_byte a)) h in
    (not_true (is_second b || (b == 47)) p.0, not_true (is_name_byte b && is_name_byte a) p.1)

or_first : (s t : Bool) → (s || t) ≡ false → s ≡ false
or_first true t e = absurd cc
or_first false t e = refl

or_last : (s t : Bool) → (s || t) ≡ false → t ≡ false
or_last true t e = absurd cc
or_last false t e = e

both : (s t : Bool) → s ≡ true → t ≡ true → (s && t) ≡ true
both s t e f = rw (e, f) refl

no_tail : (a b : ℕ) (xs more : List ℕ) (t : Bool) → is_name_byte a ≡ t → is_apart a b ≡ true →
    cond t (list_all is_name_byte (xs ++ b ∷ more)) (list_all is_second (xs ++ b ∷ more)) ≡ true → ⊥
no_tail a b xs more true e h g =
    let p = apart_parts a b h in
    let q : is_name_byte b ≡ true = middle is_name_byte xs b more g in
    let r : (is_name_byte b && is_name_byte a) ≡ true = both (is_name_byte b) (is_name_byte a) q e in
    let s = p.1 in
    absurd cc
no_tail a b xs more false e h g =
    let p = apart_parts a b h in
    let q : is_second b ≡ true = middle is_second xs b more g in
    let r : is_second b ≡ false = or_first (is_second b) (b == 47) p.0 in
    absurd cc

module _ (a : ℕ) (xs rest : List ℕ) (parts : Parts a rest) where
  apart_from : (b : ℕ) (more : List ℕ) → rest ≡ b ∷ more → is_apart a b ≡ true
  apart_from b more e = subst (Parts a) e parts

  pub longest_here : IsLongest (a ∷ xs) rest
  longest_here b more other k e u =
      let p = and_parts (not (is_white a)) (cond (is_name_byte a) (list_all is_name_byte (xs ++ b ∷ more)) (list_all is_second (xs ++ b ∷ more))) (unit_is u) in
      no_tail a b xs more (is_name_byte a) refl (apart_from b (more ++ other) e) p.1

-- a token and what parts from it begin no comment
no_comment_in : (a : ℕ) (xs rest : List ℕ) → Parts a rest →
    cond (is_name_byte a) (list_all is_name_byte xs) (list_all is_second xs) ≡ true → BeginsComment ((a ∷ xs) ++ rest) → ⊥
no_comment_in a [] rest parts tail c =
    let e : rest ≡ 47 ∷ c.0 = let q = c.1 in cc in
    let h : is_apart a 47 ≡ true = subst (Parts a) e parts in
    absurd cc
no_comment_in a (b ∷ xs) rest parts tail c =
    let e : a ≡ 47 = let q = c.1 in cc in
    let f : b ≡ 47 = let q = c.1 in cc in
    let h : cond (is_name_byte 47) (list_all is_name_byte (47 ∷ xs)) (list_all is_second (47 ∷ xs)) ≡ true = subst (λ (b : ℕ). cond (is_name_byte 47) (list_all is_name_byte (b ∷ xs)) (list_all is_second (b ∷ xs)) ≡ true) f (subst (λ (a : ℕ). cond (is_name_byte a) (list_all is_name_byte (b ∷ xs)) (list_all is_second (b ∷ xs)) ≡ true) e tail) in
    absurd cc

module _ {bytes : List ℕ} {k : Lexeme} (u : IsUnit bytes k) (rest : List ℕ)
    (parts : (a : ℕ) (xs : List ℕ) → bytes ≡ a ∷ xs → Parts a rest) where
  pub parted_longest : IsLongest bytes rest
  parted_longest =
      let b = unit_begins u in
      subst (λ (l : List ℕ). IsLongest l rest) (sym b.is) (longest_here b.first b.more rest (parts b.first b.more b.is))

  pub parted_no_comment : BeginsComment (bytes ++ rest) → ⊥
  parted_no_comment =
      let b = unit_begins u in
      subst (λ (l : List ℕ). BeginsComment (l ++ rest) → ⊥) (sym b.is) (no_comment_in b.first b.more rest (parts b.first b.more b.is) b.tail)
