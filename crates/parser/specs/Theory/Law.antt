-- The law of every reader: it takes tokens that are in its relation, ends at the nesting that it promises, and reads no
-- token after the next one.
use Rattle.std.proofs.Common.{get_or, ◌≡◌, ℕ, zero, suc, ◌+◌, ◌<◌, ◌≤◌, Bool, true, false, cond, List, [], ◌∷◌, ◌++◌}
use Rattle.std.proofs.Common.{length, Result, Ok, Err, refl, sym, ap, ◌∙◌, subst, append_assoc, length-append, arith}
use Rattle.std.proofs.lemmas.Bool.{eqb-true, eq-eqb}
use Rattle.std.proofs.lemmas.List.{append-nil}
use Rattle.source.specs.declared.span.Span.{Span}
use Rattle.source.specs.declared.token.Keyword.{Keyword}
use Rattle.source.specs.declared.token.Keyword.TheVariants.{Lock, Struct, Final, Ref, Int, Global, ProtectedBy, Pool}
use Rattle.source.specs.declared.token.Keyword.TheVariants.{Init, Atomic, Let, Var, If, Else, While, Print, Return}
use Rattle.source.specs.declared.token.Keyword.TheVariants.{Thread, Repeat, Null, Where, Call}
use Rattle.source.specs.declared.token.Sign.{Sign}
use Rattle.source.specs.declared.token.Sign.TheVariants.{OpenBrace, CloseBrace, OpenParen, CloseParen, OpenBracket}
use Rattle.source.specs.declared.token.Sign.TheVariants.{CloseBracket, Semicolon, Comma, Colon, Dot, Equals}
use Rattle.source.specs.declared.token.Sign.TheVariants.{DoubleEquals, NotEquals, Less, LessEquals, Greater}
use Rattle.source.specs.declared.token.Sign.TheVariants.{GreaterEquals, Plus, Minus, Star, Slash, Percent, And, Or}
use Rattle.source.specs.declared.token.Sign.TheVariants.{Not}
use Rattle.source.specs.Tokens.{Lexeme, name, int, word, mark, end, Tok}
use Rattle.source.specs.declared.token.Number.{Number}
use Rattle.syntax.specs.Grammar.{tok, int_tok, IsName, is_name, open_after, nesting, IsOpening}
use Rattle.syntax.specs.Faults.{NoEnd}
use Rattle.parser.specs.declared.stop.Stop.{Stop}
use Rattle.parser.specs.declared.stop.Stop.TheVariants.{Unexpected, TooDeep, NoMemory}
use Rattle.parser.specs.Working.Reading.{◌>>=◌, Reader, refused, too_deep, first_at, sign_code, same_sign}
use Rattle.parser.specs.Working.Reading.{keyword_code, same_keyword, sign_from, sign_at, word_from, word_at, opened}
use Rattle.parser.specs.Working.Reading.{open_from, open_at, name_from, name_at, int_from, int_at}

-- ---- stretches of tokens

pub NoEnd-append : (a b : List Tok) → NoEnd a → NoEnd b → NoEnd (a ++ b)
NoEnd-append [] b h g = g
NoEnd-append (t ∷ a) b h g = (h.0, NoEnd-append a b h.1 g)

pub nesting-append : (d : ℕ) (a b : List Tok) → nesting d (a ++ b) ≡ nesting (nesting d a) b
nesting-append d [] b = refl
nesting-append d (t ∷ a) b = nesting-append (open_after d t.kind) a b

-- the same next token, or none for both
abbrev pub SameNext : List Tok → List Tok → Type 0
SameNext [] other = other ≡ []
SameNext (t ∷ ts) other = (us : List Tok) × (other ≡ t ∷ us)

pub SameNext-append : (a b other : List Tok) → SameNext b other → SameNext (a ++ b) (a ++ other)
SameNext-append [] b other h = h
SameNext-append (t ∷ a) b other h = (a ++ other, refl)

pub SameNext-at : (a : List Tok) (t : Tok) (b other : List Tok) → SameNext (a ++ t ∷ b) (a ++ t ∷ other)
SameNext-at a t b other = SameNext-append a (t ∷ b) (t ∷ other) (other, refl)

-- the requirement on y, once x was read
abbrev pub Then : {A B : Type 0} → (A → List Tok → List Tok → Type 0) → (B → List Tok → List Tok → Type 0) → A → B →
    List Tok → List Tok → Type 0
Then RF RH x y mid rest = (ts : List Tok) → RF x ts mid → RH y ts rest

abbrev pub Says : {A : Type 0} → Reader A → List Tok → Result (A × List Tok) Stop → Type 0
Says f ts r = f ts ≡ r

abbrev pub at_rest : {A : Type 0} → (A → List Tok → List Tok → Type 0) → Tok → A → List Tok → List Tok → Type 0
at_rest R t x ts rest = R x (t ∷ ts) rest

-- the token k at x, then rest
pub data IsTok (k : Lexeme) : Span → List Tok → List Tok → Type 0 where
  is_tok : {x : Span} {ts : List Tok} → IsTok k x (tok k x ∷ ts) ts

pub data IsInt : Number → List Tok → List Tok → Type 0 where
  is_int_tok : {n : Number} {ts : List Tok} → IsInt n (int_tok n ∷ ts) ts

tok_first : {k : Lexeme} {x : Span} {ts rest : List Tok} → IsTok k x ts rest → ts ≡ tok k x ∷ rest
tok_first is_tok = refl

abbrev sign_of_code : ℕ → Sign
sign_of_code n = get_or (OpenBrace ∷ CloseBrace ∷ OpenParen ∷ CloseParen ∷ OpenBracket ∷ CloseBracket ∷ Semicolon ∷
    Comma ∷ Colon ∷ Dot ∷ Equals ∷ DoubleEquals ∷ NotEquals ∷ Less ∷ LessEquals ∷ Greater ∷ GreaterEquals ∷ Plus ∷ Minus
    ∷ Star ∷ Slash ∷ Percent ∷ And ∷ Or ∷ Not ∷ []) n Not

sign_back : (s : Sign) → sign_of_code (sign_code s) ≡ s
sign_back OpenBrace = refl
sign_back CloseBrace = refl
sign_back OpenParen = refl
sign_back CloseParen = refl
sign_back OpenBracket = refl
sign_back CloseBracket = refl
sign_back Semicolon = refl
sign_back Comma = refl
sign_back Colon = refl
sign_back Dot = refl
sign_back Equals = refl
sign_back DoubleEquals = refl
sign_back NotEquals = refl
sign_back Less = refl
sign_back LessEquals = refl
sign_back Greater = refl
sign_back GreaterEquals = refl
sign_back Plus = refl
sign_back Minus = refl
sign_back Star = refl
sign_back Slash = refl
sign_back Percent = refl
sign_back And = refl
sign_back Or = refl
sign_back Not = refl

pub same_sign-true : (a b : Sign) → same_sign a b ≡ true → a ≡ b
same_sign-true a b h = sym (sign_back a) ∙ ap sign_of_code (eqb-true (sign_code a) (sign_code b) h) ∙ sign_back b

pub same_sign-refl : (s : Sign) → same_sign s s ≡ true
same_sign-refl s = eq-eqb (sign_code s) (sign_code s) refl

abbrev word_of_code : ℕ → Keyword
word_of_code n = get_or (Lock ∷ Struct ∷ Final ∷ Ref ∷ Int ∷ Global ∷ ProtectedBy ∷ Pool ∷ Init ∷ Atomic ∷ Let ∷ Var ∷
    If ∷ Else ∷ While ∷ Print ∷ Return ∷ Thread ∷ Repeat ∷ Null ∷ Where ∷ Call ∷ []) n Call

word_back : (w : Keyword) → word_of_code (keyword_code w) ≡ w
word_back Lock = refl
word_back Struct = refl
word_back Final = refl
word_back Ref = refl
word_back Int = refl
word_back Global = refl
word_back ProtectedBy = refl
word_back Pool = refl
word_back Init = refl
word_back Atomic = refl
word_back Let = refl
word_back Var = refl
word_back If = refl
word_back Else = refl
word_back While = refl
word_back Print = refl
word_back Return = refl
word_back Thread = refl
word_back Repeat = refl
word_back Null = refl
word_back Where = refl
word_back Call = refl

pub same_keyword-true : (a b : Keyword) → same_keyword a b ≡ true → a ≡ b
same_keyword-true a b h = sym (word_back a) ∙ ap word_of_code (eqb-true (keyword_code a) (keyword_code b) h) ∙ word_back
    b

pub same_keyword-refl : (w : Keyword) → same_keyword w w ≡ true
same_keyword-refl w = eq-eqb (keyword_code w) (keyword_code w) refl

abbrev no_place : Span
no_place = record { start = 0; end = 0 }

abbrev tok_example : (k : Lexeme) (rest : List Tok) → (x : Span) × (other : List Tok) × IsTok k x other rest
tok_example k rest = (no_place, tok k no_place ∷ rest, is_tok)

-- a sign that is not an opening one leaves the nesting lower or as it is
abbrev pub after_sign : ℕ → Sign → ℕ
after_sign d s = open_after d (mark s)

module _ (limit : ℕ) where
  -- each opening sign has a nesting below the limit, with d before the first token
  abbrev pub ShallowFrom : ℕ → List Tok → Type 0
  ShallowFrom d [] = Unit {0}
  ShallowFrom d (t ∷ ts) = (IsOpening t.kind → d < limit) × ShallowFrom (open_after d t.kind) ts

  pub ShallowFrom-append : (d : ℕ) (a b : List Tok) → ShallowFrom d a → ShallowFrom (nesting d a) b →
      ShallowFrom d (a ++ b)
  ShallowFrom-append d [] b h g = g
  ShallowFrom-append d (t ∷ a) b h g = (h.0, ShallowFrom-append (open_after d t.kind) a b h.1 g)

  -- ---- the law

  module _ {A : Type 0} (R : A → List Tok → List Tok → Type 0) (S : List Tok → Result (A × List Tok) Stop → Type 0)
      (least d e : ℕ) (ts : List Tok) where
    -- x was read, and rest is left
    pub record Took (x : A) (rest : List Tok) : Type 0 where
      pub taken : List Tok
      pub parts : ts ≡ taken ++ rest
      pub some : least ≤ length taken
      pub no_end : NoEnd taken
      pub level : nesting d taken ≡ e
      pub shallow : ShallowFrom d taken
      pub is : (other : List Tok) → R x (taken ++ other) other
      pub again : (other : List Tok) → SameNext rest other → S (taken ++ other) (Ok (x, other))

    -- a token is unexpected, whatever follows
    pub record Met (left : ℕ) : Type 0 where
      pub before : List Tok
      pub token : Tok
      pub after : List Tok
      pub parts : ts ≡ before ++ token ∷ after
      pub place : length after ≡ left
      pub again : (other : List Tok) → S (before ++ token ∷ other) (Err (Unexpected (suc (length other))))
      pub shallow : ShallowFrom d before
      pub begun : (rest : List Tok) → (x : A) × (other : List Tok) × R x (before ++ other) rest

    -- an opening sign is too deep
    pub record Deep (left : ℕ) : Type 0 where
      pub before : List Tok
      pub token : Tok
      pub after : List Tok
      pub parts : ts ≡ before ++ token ∷ after
      pub place : suc (length after) ≡ left
      pub opens : IsOpening token.kind
      pub deep : nesting d before ≡ limit
      pub shallow : ShallowFrom d before
      pub expected : (rest : List Tok) → (x : A) × (other : List Tok) × R x (before ++ token ∷ other) rest

    abbrev pub LawAt : Result (A × List Tok) Stop → Type 0
    LawAt (Ok x) = Took x.0 x.1
    LawAt (Err (Unexpected zero)) = NoEnd ts
    LawAt (Err (Unexpected (suc n))) = Met n
    LawAt (Err (TooDeep n)) = Deep n
    LawAt (Err NoMemory) = ⊥

  module _ {A B : Type 0} (RF : A → List Tok → List Tok → Type 0) (RH : B → List Tok → List Tok → Type 0)
      (SF : List Tok → Result (A × List Tok) Stop → Type 0) (SG : A → List Tok → Result (B × List Tok) Stop → Type 0)
      (SH : List Tok → Result (B × List Tok) Stop → Type 0) (glue : (ts rest : List Tok) (x : A)
      (q : Result (B × List Tok) Stop) → SF ts (Ok (x, rest)) → SG x rest q → SH ts q)
      (stop : (ts : List Tok) (e : Stop) → SF ts (Err e) → SH ts (Err e)) (least m d e g : ℕ) (ts : List Tok) where
    joined : (x : A) (rest : List Tok) (q : Result (B × List Tok) Stop) → Took RF SF least d e ts x rest →
        LawAt (Then RF RH x) (SG x) m e g rest q → LawAt RH SH least d g ts q
    joined x rest (Ok y) f s = record {
      taken = f.taken ++ s.taken;
      parts = f.parts ∙ ap (λ (l : List Tok). f.taken ++ l) s.parts ∙ sym (append_assoc f.taken s.taken y.1);
      some = omega (arith, f.some, length-append f.taken s.taken);
      no_end = NoEnd-append f.taken s.taken f.no_end s.no_end;
      level = nesting-append d f.taken s.taken ∙ ap (λ n. nesting n s.taken) f.level ∙ s.level;
      shallow = ShallowFrom-append d f.taken s.taken f.shallow (subst (λ n. ShallowFrom n s.taken) (sym f.level)
          s.shallow);
      is = λ other. subst (λ (l : List Tok). RH y.0 l other) (sym (append_assoc f.taken s.taken other))
          (s.is other (f.taken ++ (s.taken ++ other)) (f.is (s.taken ++ other)));
      again = λ other same. subst (λ (l : List Tok). SH l (Ok (y.0, other))) (sym (append_assoc f.taken s.taken other))
          (glue (f.taken ++ (s.taken ++ other)) (s.taken ++ other) x (Ok (y.0, other))
          (f.again (s.taken ++ other) (subst (λ (l : List Tok). SameNext l (s.taken ++ other)) (sym s.parts)
          (SameNext-append s.taken y.1 other same))) (s.again other same));
    }
    joined x rest (Err (Unexpected zero)) f s = subst NoEnd (sym f.parts) (NoEnd-append f.taken rest f.no_end s)
    joined x rest (Err (Unexpected (suc n))) f s = record {
      before = f.taken ++ s.before;
      token = s.token;
      after = s.after;
      parts = f.parts ∙ ap (λ (l : List Tok). f.taken ++ l) s.parts ∙ sym
          (append_assoc f.taken s.before (s.token ∷ s.after));
      place = s.place;
      again = λ other. subst (λ (l : List Tok). SH l (Err (Unexpected (suc (length other)))))
          (sym (append_assoc f.taken s.before (s.token ∷ other))) (glue (f.taken ++ (s.before ++ s.token ∷ other))
          (s.before ++ s.token ∷ other) x (Err (Unexpected (suc (length other))))
          (f.again (s.before ++ s.token ∷ other) (subst (λ (l : List Tok). SameNext l (s.before ++ s.token ∷ other))
          (sym s.parts) (SameNext-at s.before s.token s.after other))) (s.again other));
      shallow = ShallowFrom-append d f.taken s.before f.shallow (subst (λ n. ShallowFrom n s.before) (sym f.level)
          s.shallow);
      begun = λ rest'. let p = s.begun rest' in (
        p.0,
        p.1,
        subst (λ (l : List Tok). RH p.0 l rest')
            (sym (append_assoc f.taken s.before p.1)) (p.2 (f.taken ++ (s.before ++ p.1)) (f.is (s.before ++ p.1))),
      );
    }
    joined x rest (Err (TooDeep n)) f s = record {
      before = f.taken ++ s.before;
      token = s.token;
      after = s.after;
      parts = f.parts ∙ ap (λ (l : List Tok). f.taken ++ l) s.parts ∙ sym
          (append_assoc f.taken s.before (s.token ∷ s.after));
      place = s.place;
      opens = s.opens;
      deep = nesting-append d f.taken s.before ∙ ap (λ n. nesting n s.before) f.level ∙ s.deep;
      shallow = ShallowFrom-append d f.taken s.before f.shallow (subst (λ n. ShallowFrom n s.before) (sym f.level)
          s.shallow);
      expected = λ rest'. let p = s.expected rest' in (
        p.0,
        p.1,
        subst (λ (l : List Tok). RH p.0 l rest')
            (sym (append_assoc f.taken s.before (s.token ∷ p.1))) (p.2 (f.taken ++ (s.before ++ s.token ∷ p.1))
            (f.is (s.before ++ s.token ∷ p.1))),
      );
    }
    joined x rest (Err NoMemory) f s = s

    pub then_at : (r : Result (A × List Tok) Stop) (k : A → List Tok → Result (B × List Tok) Stop) →
        LawAt RF SF least d e ts r →
        ((rest : List Tok) → (mid : List Tok) × ((x : A) → (y : B) × Then RF RH x y mid rest)) →
        ((x : A) (rest : List Tok) → Took RF SF least d e ts x rest →
        LawAt (Then RF RH x) (SG x) m e g rest (k x rest)) → LawAt RH SH least d g ts (r >>= λ x. k x.0 x.1)
    then_at (Ok x) k f sample s = joined x.0 x.1 (k x.0 x.1) f (s x.0 x.1 f)
    then_at (Err (Unexpected zero)) k f sample s = f
    then_at (Err (Unexpected (suc n))) k f sample s = record {
      before = f.before;
      token = f.token;
      after = f.after;
      parts = f.parts;
      place = f.place;
      again = λ other. stop (f.before ++ f.token ∷ other) _ (f.again other);
      shallow
          = f.shallow;
      begun = λ rest. let m = sample rest in let p = f.begun m.0 in let q = m.1 p.0 in
          (q.0, p.1, q.1 (f.before ++ p.1) p.2);
    }
    then_at (Err (TooDeep n)) k f sample s = record {
      before = f.before;
      token = f.token;
      after = f.after;
      parts =
          f.parts;
      place = f.place;
      opens = f.opens;
      deep = f.deep;
      shallow = f.shallow;
      expected = λ rest. let m = sample
          rest in let p = f.expected m.0 in let q = m.1 p.0 in (q.0, p.1, q.1 (f.before ++ f.token ∷ p.1) p.2);
    }
    then_at (Err NoMemory) k f sample s = f

  -- ---- readers

  -- the reader f reads R, takes least tokens or more, and leads from nesting d to nesting e
  abbrev pub Law : {A : Type 0} → (A → List Tok → List Tok → Type 0) → Reader A → ℕ → ℕ → ℕ → Type 0
  Law R f least d e = (ts : List Tok) → LawAt R (Says f) least d e ts (f ts)

  pub then_law : {A B : Type 0} (RF : A → List Tok → List Tok → Type 0) (RH : B → List Tok → List Tok →
      Type 0) (f : Reader A) (g : A → Reader B) (least m d e h : ℕ) → Law RF f least d e
      → ((rest : List Tok) → (mid : List Tok) × ((x : A) → (y : B) × Then RF RH x y mid rest))
      → ((x : A) → Law (Then RF RH x) (g x) m e h) → Law RH (λ ts. f ts >>= λ x. g x.0 x.1) least d h
  then_law RF RH f g least m d e h lf sample lg ts =
      then_at RF RH (Says f) (λ x. Says (g x)) (Says (λ ts. f ts >>= λ x. g x.0 x.1))
      (λ ts rest x q p s. ap (λ (r : Result (_ × List Tok) Stop). r >>= λ x. g x.0 x.1) p ∙ s)
      (λ ts e p. ap (λ (r : Result (_ × List Tok) Stop). r >>= λ x. g x.0 x.1) p) least m d e h ts (f ts) g (lf ts)
      sample (λ x rest took. lg x rest)

  -- the last symbol of a production
  pub last_law : {A B : Type 0} (RF : A → List Tok → List Tok → Type 0) (RH : B → List Tok → List Tok →
      Type 0) (f : Reader A) (make : A → B) (least d e : ℕ) → Law RF f least d e
      → ((x : A) (rest : List Tok) → Then RF RH x (make x) rest rest) → Law RH (λ ts. f ts >>= λ x. Ok (make x.0, x.1))
      least d e
  last_law RF RH f make least d e lf is = then_law RF RH f (λ x ts. Ok (make x, ts)) least 0 d e e lf
      (λ rest. (rest, λ x. (make x, is x rest))) (λ x ts. record {
        taken = [];
        parts = refl;
        some = omega arith;
        no_end
            = tt;
        level = refl;
        shallow = tt;
        is = λ other. is x other;
        again = λ other same. refl;
      })

  -- the end of a production
  pub give_law : {A : Type 0} (R : A → List Tok → List Tok → Type 0) (x : A) (d : ℕ) → ((ts : List Tok) → R x ts ts) →
      Law R (λ ts. Ok (x, ts)) 0 d d
  give_law R x d h ts = record {
    taken = [];
    parts = refl;
    some = omega arith;
    no_end = tt;
    level = refl;
    shallow = tt;
    is = h;
    again = λ other same. refl;
  }

  -- ---- the first token

  -- the effect of a first token on a reader
  pub data Head {A : Type 0} (R : A → List Tok → List Tok → Type 0) (d e : ℕ) (k : Lexeme) (at : Span) (g : Reader A) :
      Type 0 where
    refuses : ((ts : List Tok) → g ts ≡ refused ts) → Head R d e k at g
    deepens : IsOpening k → d ≡ limit →
        ((rest : List Tok) → (x : A) × (other : List Tok) × R x (tok k at ∷ other) rest) →
        ((ts : List Tok) → g ts ≡ too_deep ts) → Head R d e k at g
    takes : (n : ℕ) → (k ≡ end → ⊥) → (IsOpening k → d < limit) → Law (at_rest R (tok k at)) g n (open_after d k) e →
        Head R d e k at g

  module _ {A : Type 0} (R : A → List Tok → List Tok → Type 0) (S' S : List Tok → Result (A × List Tok) Stop → Type 0)
      (n d e : ℕ) (t : Tok) (glue : (us : List Tok) (q : Result (A × List Tok) Stop) → S' us q → S (t ∷ us) q) where
    pub prefixed : (ts : List Tok) → (t.kind ≡ end → ⊥) → (IsOpening t.kind → d < limit) →
        (r : Result (A × List Tok) Stop) → LawAt (at_rest R t) S' n (open_after d t.kind) e ts r →
        LawAt R S 1 d e (t ∷ ts) r
    prefixed ts no_end low (Ok x) s = record {
      taken = t ∷ s.taken;
      parts = ap (λ (l : List Tok). t ∷ l) s.parts;
      some = omega arith;
      no_end = (no_end, s.no_end);
      level = s.level;
      shallow = (low, s.shallow);
      is = s.is;
      again = λ other same. glue (s.taken ++ other) (Ok (x.0, other)) (s.again other same);
    }
    prefixed ts no_end low (Err (Unexpected zero)) s = (no_end, s)
    prefixed ts no_end low (Err (Unexpected (suc m))) s = record {
      before = t ∷ s.before;
      token = s.token;
      after =
          s.after;
      parts = ap (λ (l : List Tok). t ∷ l) s.parts;
      place = s.place;
      again = λ other. glue
          (s.before ++ s.token ∷ other) _ (s.again other);
      shallow = (low, s.shallow);
      begun = s.begun;
    }
    prefixed ts no_end low (Err (TooDeep m)) s = record {
      before = t ∷ s.before;
      token = s.token;
      after = s.after;
      parts
          = ap (λ (l : List Tok). t ∷ l) s.parts;
      place = s.place;
      opens = s.opens;
      deep = s.deep;
      shallow =
          (low, s.shallow);
      expected = s.expected;
    }
    prefixed ts no_end low (Err NoMemory) s = s

  -- a weaker relation
  pub implies : {A : Type 0} (R R' : A → List Tok → List Tok → Type 0) (S : List Tok → Result (A × List Tok) Stop →
      Type 0) (n d e : ℕ) (ts : List Tok) → ((x : A) (us rest : List Tok) → R x us rest →
      R' x us rest) → (r : Result (A × List Tok) Stop) → LawAt R S n d e ts r → LawAt R' S n d e ts r
  implies R R' S n d e ts h (Ok x) s = record {
    taken = s.taken;
    parts = s.parts;
    some = s.some;
    no_end = s.no_end;
    level = s.level;
    shallow = s.shallow;
    is = λ other. h x.0 (s.taken ++ other) other (s.is other);
    again = s.again;
  }
  implies R R' S n d e ts h (Err (Unexpected zero)) s = s
  implies R R' S n d e ts h (Err (Unexpected (suc m))) s = record {
    before = s.before;
    token = s.token;
    after = s.after;
    parts = s.parts;
    place = s.place;
    again = s.again;
    shallow = s.shallow;
    begun = λ rest. let p = s.begun rest in
        (p.0, p.1, h p.0 (s.before ++ p.1) rest p.2);
  }
  implies R R' S n d e ts h (Err (TooDeep m)) s = record {
    before = s.before;
    token = s.token;
    after = s.after;
    parts =
        s.parts;
    place = s.place;
    opens = s.opens;
    deep = s.deep;
    shallow = s.shallow;
    expected = λ rest. let p =
        s.expected rest in (p.0, p.1, h p.0 (s.before ++ s.token ∷ p.1) rest p.2);
  }
  implies R R' S n d e ts h (Err NoMemory) s = s

  -- the same law for an equal reader
  module _ {A : Type 0} (R : A → List Tok → List Tok → Type 0) (S' S : List Tok → Result (A × List Tok) Stop → Type 0)
      (n d e : ℕ) (ts : List Tok) (same_says : (us : List Tok) (q : Result (A × List Tok) Stop) → SameNext ts us → S' us
      q → S us q) where
    pub said : (r : Result (A × List Tok) Stop) → LawAt R S' n d e ts r → LawAt R S n d e ts r
    said (Ok x) s = record {
      taken = s.taken;
      parts = s.parts;
      some = s.some;
      no_end = s.no_end;
      level = s.level;
      shallow = s.shallow;
      is = s.is;
      again = λ other same. same_says (s.taken ++ other) (Ok (x.0, other))
          (subst (λ (l : List Tok). SameNext l (s.taken ++ other)) (sym s.parts) (SameNext-append s.taken x.1 other same))
          (s.again other same);
    }
    said (Err (Unexpected zero)) s = s
    said (Err (Unexpected (suc m))) s = record {
      before = s.before;
      token = s.token;
      after = s.after;
      parts = s.parts;
      place = s.place;
      again = λ other. same_says (s.before ++ s.token ∷ other) _
          (subst (λ (l : List Tok). SameNext l (s.before ++ s.token ∷ other)) (sym s.parts)
          (SameNext-at s.before s.token s.after other)) (s.again other);
      shallow = s.shallow;
      begun = s.begun;
    }
    said (Err (TooDeep m)) s = record {
      before = s.before;
      token = s.token;
      after = s.after;
      parts = s.parts;
      place =
          s.place;
      opens = s.opens;
      deep = s.deep;
      shallow = s.shallow;
      expected = s.expected;
    }
    said (Err NoMemory) s = s

  module _ {A : Type 0} (R : A → List Tok → List Tok → Type 0) (f : Lexeme → Span → Reader A) (d e : ℕ)
      (example : (rest : List Tok) → (x : A) × (other : List Tok) × R x other rest) where
    headed : (t : Tok) (ts : List Tok) → Head R d e t.kind t.span (f t.kind t.span) →
        LawAt R (Says (first_at f)) 1 d e (t ∷ ts) (f t.kind t.span ts)
    headed t ts (refuses h) = rw (h ts) (record {
      before = [];
      token = t;
      after = ts;
      parts = refl;
      place = refl;
      again
          = λ other. h other;
      shallow = tt;
      begun = example;
    })
    headed t ts (deepens opens deep sample h) = rw (h ts) (record {
      before = [];
      token = t;
      after = ts;
      parts = refl;
      place = refl;
      opens = opens;
      deep = deep;
      shallow = tt;
      expected = sample;
    })
    headed t ts (takes n no_end low law) = prefixed R (Says (f t.kind t.span)) (Says (first_at f)) n d e t (λ us q h. h)
        ts no_end low (f t.kind t.span ts) (law ts)

    pub first_law : ((k : Lexeme) (at : Span) → Head R d e k at (f k at)) → Law R (first_at f) 1 d e
    first_law h [] = tt
    first_law h (t ∷ ts) = headed t ts (h t.kind t.span)

  -- ---- single tokens

  sign_head : (s m : Sign) (d : ℕ) (at : Span) (b : Bool) → same_sign m s ≡ b → (IsOpening (mark s) → d < limit) →
      Head (IsTok (mark s)) d (after_sign d s) (mark m) at (λ ts. cond b (Ok (at, ts)) (refused ts))
  sign_head s m d at false e low = refuses (λ ts. refl)
  sign_head s m d at true e low =
      let same = same_sign-true m s e in
      subst (λ (x : Sign). Head (IsTok (mark s)) d (after_sign d s) (mark x) at (λ ts. Ok (at, ts))) (sym same)
      (takes 0 (λ e. cc) low (λ ts. record {
        taken = [];
        parts = refl;
        some = omega arith;
        no_end = tt;
        level =
            refl;
        shallow = tt;
        is = λ other. is_tok;
        again = λ other same. refl;
      }))

  sign_from_head : (s : Sign) (d : ℕ) → (IsOpening (mark s) → d < limit) → (k : Lexeme) (at : Span) →
      Head (IsTok (mark s)) d (after_sign d s) k at (sign_from s k at)
  sign_from_head s d low (mark m) at = sign_head s m d at (same_sign m s) refl low
  sign_from_head s d low (name x) at = refuses (λ ts. refl)
  sign_from_head s d low (int n) at = refuses (λ ts. refl)
  sign_from_head s d low (word w) at = refuses (λ ts. refl)
  sign_from_head s d low end at = refuses (λ ts. refl)

  pub sign_law : (s : Sign) (d : ℕ) → (IsOpening (mark s) → d < limit) →
      Law (IsTok (mark s)) (sign_at s) 1 d (after_sign d s)
  unfolding sign_at
  sign_law s d low = first_law (IsTok (mark s)) (sign_from s) d (after_sign d s) (tok_example (mark s))
      (sign_from_head s d low)

  word_head : (w v : Keyword) (d : ℕ) (at : Span) (b : Bool) → same_keyword v w ≡ b →
      Head (IsTok (word w)) d d (word v) at (λ ts. cond b (Ok (at, ts)) (refused ts))
  word_head w v d at false e = refuses (λ ts. refl)
  word_head w v d at true e =
      let same = same_keyword-true v w e in
      subst (λ (x : Keyword). Head (IsTok (word w)) d d (word x) at (λ ts. Ok (at, ts))) (sym same)
      (takes 0 (λ e. cc) (λ o. absurd o) (λ ts. record {
        taken = [];
        parts = refl;
        some = omega arith;
        no_end = tt;
        level = refl;
        shallow = tt;
        is = λ other. is_tok;
        again = λ other same. refl;
      }))

  word_from_head : (w : Keyword) (d : ℕ) (k : Lexeme) (at : Span) → Head (IsTok (word w)) d d k at (word_from w k at)
  word_from_head w d (word v) at = word_head w v d at (same_keyword v w) refl
  word_from_head w d (name x) at = refuses (λ ts. refl)
  word_from_head w d (int n) at = refuses (λ ts. refl)
  word_from_head w d (mark m) at = refuses (λ ts. refl)
  word_from_head w d end at = refuses (λ ts. refl)

  pub word_law : (w : Keyword) (d : ℕ) → Law (IsTok (word w)) (word_at w) 1 d d
  unfolding word_at
  word_law w d = first_law (IsTok (word w)) (word_from w) d d (tok_example (word w)) (word_from_head w d)

  name_head : (d : ℕ) (k : Lexeme) (at : Span) → Head IsName d d k at (name_from k at)
  name_head d (name x) at = takes 0 (λ e. cc) (λ o. absurd o) (λ ts. record {
    taken = [];
    parts = refl;
    some = omega arith;
    no_end = tt;
    level = refl;
    shallow = tt;
    is = λ other. is_name;
    again = λ other same. refl;
  })
  name_head d _ at = refuses (λ ts. refl)

  pub name_law : (d : ℕ) → Law IsName name_at 1 d d
  unfolding name_at
  name_law d = first_law IsName name_from d d (λ rest. (
    record { text = []; span = no_place },
    tok (name []) no_place ∷
        rest,
    is_name,
  )) (name_head d)

  int_head : (d : ℕ) (k : Lexeme) (at : Span) → Head IsInt d d k at (int_from k at)
  int_head d (int n) at = takes 0 (λ e. cc) (λ o. absurd o) (λ ts. record {
    taken = [];
    parts = refl;
    some = omega arith;
    no_end = tt;
    level = refl;
    shallow = tt;
    is = λ other. is_int_tok;
    again = λ other same. refl;
  })
  int_head d _ at = refuses (λ ts. refl)

  pub int_law : (d : ℕ) → Law IsInt int_at 1 d d
  unfolding int_at
  int_law d = first_law IsInt int_from d d (λ rest. (
    record { value = 0; span = no_place },
    tok (int 0) no_place ∷ rest,
    is_int_tok,
  )) (int_head d)

  -- an opening sign, and what follows it with one sign less to open
  open_head : (s m : Sign) (room d : ℕ) (at : Span) (b : Bool) → same_sign m s ≡ b → d < limit →
      Head (IsTok (mark s)) d (after_sign d s) (mark m) at (λ ts. cond b (opened (suc room) at ts) (refused ts))
  open_head s m room d at false e low = refuses (λ ts. refl)
  open_head s m room d at true e low =
      let same = same_sign-true m s e in
      subst (λ (x : Sign). Head (IsTok (mark s)) d (after_sign d s) (mark x) at (λ ts. Ok (at, ts))) (sym same)
      (takes 0 (λ e. cc) (λ o. low) (λ ts. record {
        taken = [];
        parts = refl;
        some = omega arith;
        no_end = tt;
        level
            = refl;
        shallow = tt;
        is = λ other. is_tok;
        again = λ other same. refl;
      }))

  open_from_head : (s : Sign) (room d : ℕ) → d < limit → (k : Lexeme) (at : Span) →
      Head (IsTok (mark s)) d (after_sign d s) k at (open_from s (suc room) k at)
  open_from_head s room d low (mark m) at = open_head s m room d at (same_sign m s) refl low
  open_from_head s room d low (name x) at = refuses (λ ts. refl)
  open_from_head s room d low (int n) at = refuses (λ ts. refl)
  open_from_head s room d low (word w) at = refuses (λ ts. refl)
  open_from_head s room d low end at = refuses (λ ts. refl)

  no_room_head : (s m : Sign) (d e : ℕ) (at : Span) (b : Bool) → IsOpening (mark s) → d ≡ limit → same_sign m s ≡ b →
      Head (IsTok (mark s)) d e (mark m) at (λ ts. cond b (opened zero at ts) (refused ts))
  no_room_head s m d e at false opens full eq = refuses (λ ts. refl)
  no_room_head s m d e at true opens full eq = deepens (subst (λ (x : Sign). IsOpening (mark x))
      (sym (same_sign-true m s eq)) opens) full (λ rest. (
        at,
        rest,
        subst
            (λ (x : Sign). IsTok (mark s) at (tok (mark x) at ∷ rest) rest) (sym (same_sign-true m s eq)) is_tok,
      ))
      (λ ts. refl)

  no_room_from : (s : Sign) (d e : ℕ) → IsOpening (mark s) → d ≡ limit → (k : Lexeme) (at : Span) →
      Head (IsTok (mark s)) d e k at (open_from s zero k at)
  no_room_from s d e opens full (mark m) at = no_room_head s m d e at (same_sign m s) opens full refl
  no_room_from s d e opens full (name x) at = refuses (λ ts. refl)
  no_room_from s d e opens full (int n) at = refuses (λ ts. refl)
  no_room_from s d e opens full (word w) at = refuses (λ ts. refl)
  no_room_from s d e opens full end at = refuses (λ ts. refl)

  no_took : (s : Sign) (d e g : ℕ) (ts : List Tok) (x : Span) (rest : List Tok) → IsOpening (mark s) → d ≡ limit →
      Took (IsTok (mark s)) (Says (open_at s zero)) 1 e g ts x rest → e ≡ d → ⊥
  no_took s d e g ts x rest opens full took same =
      let one : took.taken ≡ tok (mark s) x ∷ [] = sym (append-nil took.taken) ∙ tok_first (took.is []) in
      let low : e < limit = (subst (ShallowFrom e) one took.shallow).0 opens in
      omega arith

  pub open_then_law : {B : Type 0} (RH : B → List Tok → List Tok → Type 0) (s : Sign) (room : ℕ) (g : Span →
      Reader B) (m d h : ℕ) → d + room ≡ limit → IsOpening (mark s)
      → ((rest : List Tok) → (mid : List Tok) × ((x : Span) → (y : B) × Then (IsTok (mark s)) RH x y mid rest))
      → ((r : ℕ) → room ≡ suc r → (x : Span) → Law (Then (IsTok (mark s)) RH x) (g x) m (after_sign d s) h) → Law RH
      (λ ts. open_at s room ts >>= λ x. g x.0 x.1) 1 d h
  unfolding open_at
  open_then_law RH s zero g m d h sum opens sample lg ts =
      then_at (IsTok (mark s)) RH (Says (open_at s zero)) (λ x. Says (g x))
      (Says (λ ts. open_at s zero ts >>= λ x. g x.0 x.1)) (λ ts rest x q p s. ap
      (λ (r : Result (_ × List Tok) Stop). r >>= λ x. g x.0 x.1) p ∙ s)
      (λ ts e p. ap (λ (r : Result (_ × List Tok) Stop). r >>= λ x. g x.0 x.1) p) 1 m d d h ts (open_at s zero ts) g
      (first_law (IsTok (mark s)) (open_from s zero) d d (tok_example (mark s))
      (no_room_from s d d opens (omega arith)) ts) sample (λ x rest took. absurd
      (no_took s d d d ts x rest opens (omega arith) took refl))
  open_then_law RH s (suc r) g m d h sum opens sample lg ts =
      then_law (IsTok (mark s)) RH (open_at s (suc r)) g 1 m d (after_sign d s) h
      (first_law (IsTok (mark s)) (open_from s (suc r)) d (after_sign d s) (tok_example (mark s))
      (open_from_head s r d (omega arith))) sample (lg r refl) ts
