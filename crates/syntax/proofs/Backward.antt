-- Texts and their tokens, from the last one to the first.
use Rattle.std.proofs.Common.{◌≡◌, ℕ, zero, suc, ◌≤◌, true, List, [], ◌∷◌, ◌++◌, map, Some, None, refl, sym, ap}
use Rattle.std.proofs.Common.{subst, append_assoc}
use Rattle.std.specs.Fmt.{decimal}
use Rattle.source.specs.declared.span.Span.{Span}
use Rattle.source.specs.declared.token.Keyword.{Keyword}
use Rattle.source.specs.declared.token.Sign.{Sign}
use Rattle.source.specs.declared.token.Sign.TheVariants.{OpenParen, OpenBracket, Comma, Dot, Minus, Not}
use Rattle.source.specs.Tokens.{Lexeme, name, int, word, mark, Tok}
use Rattle.source.specs.Texts.{is_white, keyword_text, sign_text, NUMBER_LIMIT, IsUnit, is_word, is_mark, tok_at}
use Rattle.source.specs.Texts.{AreTokens}
use Rattle.source.specs.declared.token.Number.{Number}
use Rattle.syntax.specs.Trees.{Ident}
use Rattle.syntax.specs.Views.{option_of}
use Rattle.syntax.specs.Grammar.{IsOptional, left_out, given, AreMany, no_more, one_more, IsAfter, after, AreListed}
use Rattle.syntax.specs.Grammar.{none_listed, listed}
use Rattle.syntax.specs.Working.Printing.{many_text, after_comma, listed_text, optional_text, indent}
use Rattle.syntax.specs.Working.Bare.{nowhere}
use Rattle.syntax.proofs.Marks.{Apart, Begins, is_lone, put, put_lone, put_not, space, decimal_unit}
use Rattle.syntax.proofs.Good.{GoodKind, Good, Keeps, after_good}

abbrev pub kinds : List Tok → List Lexeme
kinds ts = map (λ (t : Tok). t.kind) ts

-- the text has tokens of these kinds
pub record Reads (total : ℕ) (text : List ℕ) (ks : List Lexeme) : Type 0 where
  pub tokens : List Tok
  pub read : AreTokens total text tokens
  pub alike : kinds tokens ≡ ks

abbrev pub at_first : List Tok → Span
at_first [] = nowhere
at_first (t ∷ ts) = t.span

-- where its first token stands
abbrev pub start_of : {total : ℕ} {text : List ℕ} {ks : List Lexeme} → Reads total text ks → Span
start_of r = at_first r.tokens

-- the name, and the number, which is its first token
abbrev pub named : {total : ℕ} {text : List ℕ} {ks : List Lexeme} → Ident → Reads total text ks → Ident
named x r = record { text = x.text; span = at_first r.tokens }

abbrev pub numbered : {total : ℕ} {text : List ℕ} {ks : List Lexeme} → Number → Reads total text ks → Number
numbered n r = record { value = n.value; span = at_first r.tokens }

abbrev pub along : {total : ℕ} {a b : List ℕ} {ks : List Lexeme} → a ≡ b → Reads total a ks → Reads total b ks
along {total} e r = record { tokens = r.tokens; read = subst (λ (t : List ℕ). AreTokens total t r.tokens) e r.read; alike = r.alike }

-- ---- a token more in front

abbrev pub token_on : {total : ℕ} {tail : List ℕ} {ks : List Lexeme} (bytes : List ℕ) (k : Lexeme) (r : Reads total tail ks) → AreTokens total (bytes ++ tail) (tok_at total bytes tail k ∷ r.tokens) → Reads total (bytes ++ tail) (k ∷ ks)
token_on {total} {tail} bytes k r read = record { tokens = tok_at total bytes tail k ∷ r.tokens; read = read; alike = ap (λ (l : List Lexeme). k ∷ l) r.alike }

abbrev pub word_on : {total : ℕ} {tail : List ℕ} {ks : List Lexeme} (w : Keyword) → Reads total tail ks → Apart tail →
    Reads total (keyword_text w ++ tail) (word w ∷ ks)
word_on {total} {tail} w r a = token_on (keyword_text w) (word w) r (put total (keyword_text w) tail (word w) r.tokens (is_word w) tt a r.read)

abbrev pub sign_on : {total : ℕ} {tail : List ℕ} {ks : List Lexeme} (s : Sign) → Reads total tail ks → Apart tail →
    Reads total (sign_text s ++ tail) (mark s ∷ ks)
sign_on {total} {tail} s r a = token_on (sign_text s) (mark s) r (put total (sign_text s) tail (mark s) r.tokens (is_mark s) tt a r.read)

abbrev pub name_on : {total : ℕ} {tail : List ℕ} {ks : List Lexeme} (x : List ℕ) → GoodKind (name x) →
    Reads total tail ks → Apart tail → Reads total (x ++ tail) (name x ∷ ks)
name_on {total} {tail} x g r a = token_on x (name x) r (put total x tail (name x) r.tokens g.0 g.1 a r.read)

abbrev pub number_on : {total : ℕ} {tail : List ℕ} {ks : List Lexeme} (n : ℕ) → n ≤ NUMBER_LIMIT →
    Reads total tail ks → Apart tail → Reads total (decimal n ++ tail) (int n ∷ ks)
number_on {total} {tail} n g r a = token_on (decimal n) (int n) r (put total (decimal n) tail (int n) r.tokens (decimal_unit n g) g a r.read)

-- signs that a name may follow
abbrev lone_on : {total : ℕ} {tail : List ℕ} {ks : List Lexeme} (s : Sign) (b : ℕ) → IsUnit (b ∷ []) (mark s) →
    is_lone b ≡ true → Reads total tail ks → Reads total (b ∷ tail) (mark s ∷ ks)
lone_on {total} {tail} s b u l r = token_on (b ∷ []) (mark s) r (put_lone total b tail (mark s) r.tokens l u tt r.read)

abbrev pub paren_on : {total : ℕ} {tail : List ℕ} {ks : List Lexeme} → Reads total tail ks →
    Reads total (40 ∷ tail) (mark OpenParen ∷ ks)
paren_on r = lone_on OpenParen 40 (is_mark OpenParen) refl r

abbrev pub bracket_on : {total : ℕ} {tail : List ℕ} {ks : List Lexeme} → Reads total tail ks →
    Reads total (91 ∷ tail) (mark OpenBracket ∷ ks)
bracket_on r = lone_on OpenBracket 91 (is_mark OpenBracket) refl r

abbrev pub dot_on : {total : ℕ} {tail : List ℕ} {ks : List Lexeme} → Reads total tail ks →
    Reads total (46 ∷ tail) (mark Dot ∷ ks)
dot_on r = lone_on Dot 46 (is_mark Dot) refl r

abbrev pub minus_on : {total : ℕ} {tail : List ℕ} {ks : List Lexeme} → Reads total tail ks →
    Reads total (45 ∷ tail) (mark Minus ∷ ks)
minus_on r = lone_on Minus 45 (is_mark Minus) refl r

abbrev pub not_on : {total : ℕ} {tail : List ℕ} {ks : List Lexeme} → Reads total tail ks → Begins tail →
    Reads total (33 ∷ tail) (mark Not ∷ ks)
not_on {total} {tail} r b = token_on (33 ∷ []) (mark Not) r (put_not total tail r.tokens b r.read)

-- ---- white space in front

abbrev white_on : {total : ℕ} {tail : List ℕ} {ks : List Lexeme} (b : ℕ) → is_white b ≡ true → Reads total tail ks →
    Reads total (b ∷ tail) ks
white_on {total} {tail} b w r = record { tokens = r.tokens; read = space total b tail r.tokens w r.read; alike = r.alike }

abbrev pub gap_on : {total : ℕ} {tail : List ℕ} {ks : List Lexeme} → Reads total tail ks → Reads total (32 ∷ tail) ks
gap_on r = white_on 32 refl r

abbrev pub line_on : {total : ℕ} {tail : List ℕ} {ks : List Lexeme} → Reads total tail ks → Reads total (10 ∷ tail) ks
line_on r = white_on 10 refl r

pub indented : (total d : ℕ) (tail : List ℕ) (us : List Tok) → AreTokens total tail us →
    AreTokens total (indent d ++ tail) us
indented total zero tail us h = h
indented total (suc d) tail us h = let i = indent d ++ tail in space total 32 (32 ∷ 32 ∷ 32 ∷ i) us refl (space total 32 (32 ∷ 32 ∷ i) us refl (space total 32 (32 ∷ i) us refl (space total 32 i us refl (indented total d tail us h))))

abbrev pub indent_on : {total : ℕ} {tail : List ℕ} {ks : List Lexeme} (d : ℕ) → Reads total tail ks →
    Reads total (indent d ++ tail) ks
indent_on {total} {tail} d r = record { tokens = r.tokens; read = indented total d tail r.tokens r.read; alike = r.alike }

-- ---- a part of a tree

-- the text's tokens, of the same kinds as ts, are such a part up to us, the same but for places
pub record Again {A : Type 0} (R : A → List Tok → List Tok → Type 0) (bare : A → A) (x : A) (total : ℕ) (text : List ℕ) (ts us : List Tok) : Type 0 where
  pub reads : Reads total text (kinds ts)
  pub tree : A
  pub is : R tree reads.tokens us
  pub same : bare tree ≡ bare x

-- a part's text is read again as that part, whatever apart from it follows
abbrev pub Rereads : {A : Type 0} → (A → List Tok → List Tok → Type 0) → (A → A) → (A → List ℕ) → Type 0
Rereads {A} R bare text = (x : A) (ts rest : List Tok) → R x ts rest → Good ts → (total : ℕ) (tail : List ℕ) (r : Reads total tail (kinds rest)) → Apart tail → Again R bare x total (text x ++ tail) ts r.tokens

pub many_apart : {A : Type 0} (text : A → List ℕ) → ((x : A) (tail : List ℕ) → Apart (text x ++ tail)) →
    (xs : List A) (tail : List ℕ) → Apart tail → Apart (many_text text xs ++ tail)
many_apart text apart [] tail a = a
many_apart text apart (x ∷ xs) tail a = subst Apart (sym (append_assoc (text x) (many_text text xs) tail)) (apart x (many_text text xs ++ tail))

pub many_again : {A : Type 0} (R : A → List Tok → List Tok → Type 0) (bare : A → A) (text : A → List ℕ) → Keeps R →
    Rereads R bare text → ((x : A) (tail : List ℕ) → Apart (text x ++ tail)) →
    Rereads (AreMany R) (map bare) (many_text text)
many_again R bare text keeps again apart xs ts rest no_more g total tail r a = record { reads = r; tree = []; is = no_more; same = refl }
many_again R bare text keeps again apart xs ts rest (one_more {x} {xs = more} p ps) g total tail r a =
    let ms = many_again R bare text keeps again apart more _ rest ps (keeps _ _ _ p g) total tail r a in
    let m = again x ts _ p g total (many_text text more ++ tail) ms.reads (many_apart text apart more tail a) in
    record {
      reads = along (sym (append_assoc (text x) (many_text text more) tail)) m.reads;
      tree = m.tree ∷ ms.tree;
      is = one_more m.is ms.is;
      same = rw (m.same, ms.same) refl;
    }

-- a part after a sign and a space
pub after_again : {A : Type 0} (s : Sign) (R : A → List Tok → List Tok → Type 0) (bare : A → A) (text : A → List ℕ) →
    Rereads R bare text → Rereads (IsAfter s R) bare (λ x. sign_text s ++ 32 ∷ text x)
after_again s R bare text again x ts rest (after p) g total tail r a =
    let m = again x _ rest p g.1 total tail r a in
    record {
      reads = along (sym (append_assoc (sign_text s) (32 ∷ text x) tail)) (sign_on s (gap_on m.reads) refl);
      tree = m.tree;
      is = after m.is;
      same = m.same;
    }

pub listed_again : {A : Type 0} (R : A → List Tok → List Tok → Type 0) (bare : A → A) (text : A → List ℕ) → Keeps R →
    Rereads R bare text → Rereads (AreListed R) (map bare) (listed_text text)
listed_again R bare text keeps again xs ts rest none_listed g total tail r a = record { reads = r; tree = []; is = none_listed; same = refl }
listed_again R bare text keeps again xs ts rest (listed {x} {xs = more} p ps) g total tail r a =
    let ms = many_again (IsAfter Comma R) bare (after_comma text) (λ y us rest2 q. after_good keeps q) (after_again Comma R bare text again) (λ y t. refl) more _ rest ps (keeps _ _ _ p g) total tail r a in
    let m = again x ts _ p g total (many_text (after_comma text) more ++ tail) ms.reads (many_apart (after_comma text) (λ y t. refl) more tail a) in
    record {
      reads = along (sym (append_assoc (text x) (many_text (after_comma text) more) tail)) m.reads;
      tree = m.tree ∷ ms.tree;
      is = listed m.is ms.is;
      same = rw (m.same, ms.same) refl;
    }

pub optional_again : {A : Type 0} (R : A → List Tok → List Tok → Type 0) (bare : A → A) (text : A → List ℕ) →
    Rereads R bare text → Rereads (IsOptional R) (option_of bare) (optional_text text)
optional_again R bare text again x ts rest left_out g total tail r a = record { reads = r; tree = None; is = left_out; same = refl }
optional_again R bare text again x ts rest (given {x = y} p) g total tail r a =
    let m = again y ts rest p g total tail r a in
    record { reads = m.reads; tree = Some m.tree; is = given m.is; same = ap (λ z. Some z) m.same }
