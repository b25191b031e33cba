-- Productions built from parts: each is a reader with its law, and some tokens that it reads.
use Rattle.std.proofs.Common.{◌≡◌, ℕ, zero, suc, ◌+◌, ◌<◌, Bool, true, false, cond, List, [], ◌∷◌, Some, None, Ok}
use Rattle.std.proofs.Common.{refl, sym, ap, ◌∙◌, subst, arith}
use Rattle.source.specs.declared.span.Span.{Span}
use Rattle.source.specs.declared.token.Keyword.{Keyword}
use Rattle.source.specs.declared.token.Sign.{Sign}
use Rattle.source.specs.declared.token.Sign.TheVariants.{CloseParen, Comma}
use Rattle.source.specs.Tokens.{Lexeme, name, int, word, mark, end, Tok}
use Rattle.syntax.specs.Grammar.{tok, IsName, is_name, IsOptional, left_out, given, AreMany, no_more, one_more}
use Rattle.syntax.specs.Grammar.{IsAfter, after, AreListed, none_listed, listed, open_after, IsOpening}
use Rattle.parser.specs.Working.Reading.{chosen, choose, ◌>>=◌, Reader, is_sign, sign_at, open_at, word_at, name_at}
use Rattle.parser.specs.Working.Reading.{int_at, skip_at, is_next, next_unless, next_until, behind, next_after}
use Rattle.parser.specs.Working.Reading.{after_each, listed_from, listed_at, maybe_from, maybe_at}
use Rattle.parser.specs.Theory.Law.{SameNext, LawAt, Then, Says, Law, then_law, give_law, at_rest, said, implies}
use Rattle.parser.specs.Theory.Law.{prefixed, same_sign-true, IsTok, is_tok, IsInt, is_int_tok, after_sign, sign_law}
use Rattle.parser.specs.Theory.Law.{word_law, name_law, int_law, open_then_law}
use Rattle.parser.specs.Theory.Laws.{NextAt, NextLaw, SaysNext, many_law, weaken_at}

-- nothing more, with y read
pub data Done {B : Type 0} (x : B) : B → List Tok → List Tok → Type 0 where
  done : {ts : List Tok} → Done x x ts ts

-- a part, and what follows it
pub data Both {A B : Type 0} (RF : A → List Tok → List Tok → Type 0) (RG : A → B → List Tok → List Tok → Type 0) : B →
    List Tok → List Tok → Type 0 where
  both : {x : A} {y : B} {ts mid rest : List Tok} → RF x ts mid → RG x y mid rest → Both RF RG y ts rest

-- tokens that a part reads, whatever follows them
abbrev pub Can : {A : Type 0} → (A → List Tok → List Tok → Type 0) → Type 0
Can R = (rest : List Tok) → (x : _) × (ts : List Tok) × R x ts rest

pub nowhere : Span
nowhere = record { start = 0; end = 0 }

pub no_room : {X : Type 0} (r : ℕ) → zero ≡ suc r → X
no_room r e = absurd (omega arith)

module _ (limit : ℕ) where
  -- a part with its law, if P holds
  pub record Part (P : Type 0) {A : Type 0} (R : A → List Tok → List Tok → Type 0) (f : Reader A) (n d e : ℕ) : Type 0
    where
      pub law : P → Law limit R f n d e
      pub can : Can R

  -- the parts that follow some parts with the value x
  pub record Rest (P : Type 0) {X B : Type 0} (R : X → B → List Tok → List Tok → Type 0) (g : X → Reader B) (n d e : ℕ)
      : Type 0 where
    pub law : P → (x : X) → Law limit (R x) (g x) n d e
    pub can : (rest : List Tok) → (ts : List Tok) × ((x : X) → (y : B) × R x y ts rest)

  pub ends_with : {P : Type 0} {X B : Type 0} (make : X → B) {d : ℕ} →
      Rest P (λ x. Done (make x)) (λ x ts. Ok (make x, ts)) 0 d d
  ends_with make {d} = record {
    law = λ p x. give_law limit (Done (make x)) (make x) d (λ ts. done);
    can = λ rest. (rest, λ x. (make x, done));
  }

  pub then_part : {P X A B : Type 0} {RF : A → List Tok → List Tok → Type 0} {f : Reader A} {R : X × A → B →
      List Tok → List Tok → Type 0} {g : X × A → Reader B} {n m d e h : ℕ}
      → Part P RF f n d e → Rest P R g m e h
      → Rest P (λ (x : X). Both RF (λ a. R (x, a))) (λ (x : X) ts. f ts >>= λ a. g (x, a.0) a.1) n d h
  then_part {RF = RF} {f = f} {R = R} {g = g} {n = n} {m = m} {d = d} {e = e} {h = h} part more = record {
    law = λ p x.
        then_law limit RF (Both RF (λ a. R (x, a))) f (λ a. g (x, a)) n m d e h (part.law p)
        (λ rest. let k = more.can rest in (k.0, λ a. ((k.1 (x, a)).0, λ ts is. both is (k.1 (x, a)).1)))
        (λ a ts. implies limit (R (x, a)) (Then RF (Both RF (λ a. R (x, a))) a) (Says (g (x, a))) m e h ts
        (λ y us rest r vs is. both is r) (g (x, a) ts) (more.law p (x, a) ts));
    can = λ rest. let k = more.can rest in let j = part.can k.0 in (
      j.1,
      λ x.
          ((k.1 (x, j.0)).0, both j.2 (k.1 (x, j.0)).1),
    );
  }

  -- an opening sign, and what follows it, which is read only if a further sign may be opened
  pub then_open : {P X B : Type 0} (s : Sign) (room : ℕ) {R : X × Span → B → List Tok → List Tok →
      Type 0} {g : X × Span → Reader B} {m d h : ℕ}
      → d + room ≡ limit → IsOpening (mark s) → Rest (0 < room) R g m (after_sign d s) h
      → Rest P (λ (x : X). Both (IsTok (mark s)) (λ a. R (x, a))) (λ (x : X) ts. open_at s room ts >>= λ a. g (x, a.0)
      a.1) 1 d h
  then_open s room {R = R} {g = g} {m = m} {d = d} {h = h} sum opens more = record {
    law = λ p x.
        open_then_law limit (Both (IsTok (mark s)) (λ a. R (x, a))) s room (λ a. g (x, a)) m d h sum opens
        (λ rest. let k = more.can rest in (k.0, λ a. ((k.1 (x, a)).0, λ ts is. both is (k.1 (x, a)).1)))
        (λ r e a ts. implies limit (R (x, a)) (Then (IsTok (mark s)) (Both (IsTok (mark s)) (λ a. R (x, a))) a)
        (Says (g (x, a))) m (after_sign d s) h ts (λ y us rest q vs is. both is q) (g (x, a) ts)
        (more.law (omega (arith, e)) (x, a) ts));
    can = λ rest. let k = more.can rest in (
      tok (mark s) nowhere ∷ k.0,
      λ x.
          ((k.1 (x, nowhere)).0, both is_tok (k.1 (x, nowhere)).1),
    );
  }

  -- the law of the whole
  pub production : {B : Type 0} {R : Unit {0} → B → List Tok → List Tok → Type 0} {g : Unit {0} →
      Reader B} {n d e : ℕ} (RH : B → List Tok → List Tok →
      Type 0) → Rest (Unit {0}) R g n d e → ((y : B) (ts rest : List Tok) → R tt y ts rest →
      RH y ts rest) → Law limit RH (g tt) n d e
  production {R = R} {g = g} {n = n} {d = d} {e = e} RH rest is ts = implies limit (R tt) RH (Says (g tt)) n d e ts is
      (g tt ts) (rest.law tt tt ts)

  -- ---- single tokens

  pub sign_part : {P : Type 0} (s : Sign) (d : ℕ) → (IsOpening (mark s) → ⊥) →
      Part P (IsTok (mark s)) (sign_at s) 1 d (after_sign d s)
  sign_part s d shut = record {
    law = λ p. sign_law limit s d (λ o. absurd (shut o));
    can = λ rest.
        (nowhere, tok (mark s) nowhere ∷ rest, is_tok);
  }

  pub word_part : {P : Type 0} (w : Keyword) (d : ℕ) → Part P (IsTok (word w)) (word_at w) 1 d d
  word_part w d = record { law = λ p. word_law limit w d; can = λ rest. (nowhere, tok (word w) nowhere ∷ rest, is_tok) }

  pub name_part : {P : Type 0} (d : ℕ) → Part P IsName name_at 1 d d
  name_part d = record {
    law = λ p. name_law limit d;
    can = λ rest. (
      record { text = []; span = nowhere },
      tok (name [])
          nowhere ∷ rest,
      is_name,
    );
  }

  pub int_part : {P : Type 0} (d : ℕ) → Part P IsInt int_at 1 d d
  int_part d = record {
    law = λ p. int_law limit d;
    can = λ rest. (
      record { value = 0; span = nowhere },
      tok (int 0)
          nowhere ∷ rest,
      is_int_tok,
    );
  }

  -- ---- parts that may be left out, and lists

  pub is_next-same : (k : Lexeme) (ts us : List Tok) → SameNext ts us → is_next k us ≡ is_next k ts
  is_next-same k [] us h = ap (is_next k) h
  is_next-same k (t ∷ ts) us h = ap (is_next k) h.1

  module _ {A : Type 0} (R : A → List Tok → List Tok → Type 0) where
    unless_law : (k : Lexeme) (f : Reader A) (d : ℕ) (ts : List Tok) (b : Bool) → is_next k ts ≡ b →
        LawAt limit R (Says f) 1 d d ts (f ts) → NextAt limit R (next_until k f) d ts (next_unless b (f ts))
    unless_law k f d ts true e h = λ other same. ap (λ b. next_unless b (f other)) (is_next-same k ts other same ∙ e)
    unless_law k f d ts false e h = said limit R (Says f) (SaysNext (next_until k f)) 1 d d ts
        (λ us q same s. ap (λ b. next_unless b (f us)) (is_next-same k ts us same ∙ e) ∙ ap Some s) (f ts) h

    pub until_law : (k : Lexeme) (f : Reader A) (d : ℕ) → Law limit R f 1 d d → NextLaw limit R (next_until k f) d
    until_law k f d law ts = unless_law k f d ts (is_next k ts) refl (law ts)

    module _ (f : Reader A) (d : ℕ) (law : Law limit R f 1 d d) where
      -- a part that may be left out
      some_law : Law limit (IsOptional R) (maybe_from f true) 1 d d
      some_law = then_law limit R (IsOptional R) f (λ x ts. Ok (Some x, ts)) 1 0 d d d law
          (λ rest. (rest, λ x. (Some x, λ ts is. given is))) (λ x. λ ts. record {
            taken = [];
            parts = refl;
            some = omega arith;
            no_end = tt;
            level = refl;
            shallow = tt;
            is = λ other us is.
                given is;
            again = λ other same. refl;
          })

      none_law : Law limit (IsOptional R) (maybe_from f false) 0 d d
      none_law = give_law limit (IsOptional R) None d (λ ts. left_out)

      by_next : (k : Lexeme) (ts : List Tok) (b : Bool) → is_next k ts ≡ b →
          LawAt limit (IsOptional R) (Says (maybe_at k f)) 0 d d ts (maybe_from f b ts)
      unfolding maybe_at
      by_next k ts true e = said limit (IsOptional R) (Says (maybe_from f true)) (Says (maybe_at k f)) 0 d d ts
          (λ us q same s. ap (λ b. maybe_from f b us) (is_next-same k ts us same ∙ e) ∙ s) (maybe_from f true ts)
          (weaken_at limit (IsOptional R) (Says (maybe_from f true)) d d ts (maybe_from f true ts) (some_law ts))
      by_next k ts false e = said limit (IsOptional R) (Says (maybe_from f false)) (Says (maybe_at k f)) 0 d d ts
          (λ us q same s. ap (λ b. maybe_from f b us) (is_next-same k ts us same ∙ e) ∙ s) (maybe_from f false ts)
          (none_law ts)

      pub maybe_law : (k : Lexeme) → Law limit (IsOptional R) (maybe_at k f) 0 d d
      unfolding maybe_at
      maybe_law k ts = by_next k ts (is_next k ts) refl

      -- items after a sign
      module _ (s : Sign) (flat : after_sign d s ≡ d) (shut : IsOpening (mark s) → ⊥) where
        is_sign-true : (k : Lexeme) → is_sign s k ≡ true → k ≡ mark s
        is_sign-true (mark m) e = ap mark (same_sign-true m s e)
        is_sign-true (name x) e = absurd cc
        is_sign-true (int x) e = absurd cc
        is_sign-true (word x) e = absurd cc
        is_sign-true end e = absurd cc

        sign_is_no_end : mark s ≡ end → ⊥
        sign_is_no_end e = cc

        behind_law : (t : Tok) → t.kind ≡ mark s → Law limit (at_rest (IsAfter s R) t) f 1 (open_after d t.kind) d
        behind_law t e ts =
            let same : t ≡ tok (mark s) t.span = ap (λ (k : Lexeme). tok k t.span) e in
            subst (λ (n : ℕ). LawAt limit (at_rest (IsAfter s R) t) (Says f) 1 n d ts (f ts))
            (sym (ap (open_after d) e ∙ flat)) (implies limit R (at_rest (IsAfter s R) t) (Says f) 1 d d ts
            (λ x us rest is. subst (λ (u : Tok). IsAfter s R x (u ∷ us) rest) (sym same) (after is)) (f ts)
            (law ts))

        found_sign : (t : Tok) (ts : List Tok) (b : Bool) → is_sign s t.kind ≡ b →
            NextAt limit (IsAfter s R) (next_after s f) d (t ∷ ts) (behind f (cond b (Some ts) None))
        unfolding skip_at
        found_sign t ts false e = λ other same. ap (λ (us : List Tok). next_after s f us) same.1 ∙ ap
            (λ b. behind f (cond b (Some same.0) None)) e
        found_sign t ts true e =
            let is : t.kind ≡ mark s = is_sign-true t.kind e in
            prefixed limit (IsAfter s R) (Says f) (SaysNext (next_after s f)) 1 d d t
            (λ us q h. ap (λ b. behind f (cond b (Some us) None)) e ∙ ap Some h) ts
            (λ bad. sign_is_no_end (sym is ∙ bad)) (λ o. absurd (shut (subst IsOpening is o))) (f ts)
            (behind_law t is ts)

        next_after_law : NextLaw limit (IsAfter s R) (next_after s f) d
        unfolding skip_at
        next_after_law [] = λ other same. ap (λ (us : List Tok). next_after s f us) same
        next_after_law (t ∷ ts) = found_sign t ts (is_sign s t.kind) refl

        pub after_each_law : Law limit (AreMany (IsAfter s R)) (after_each s f) 0 d d
        unfolding after_each
        after_each_law = many_law limit (IsAfter s R) (AreMany (IsAfter s R)) [] ◌∷◌ (next_after s f) d next_after_law
            (λ ts. no_more) (λ x l ts mid rest a b. one_more a b)

        pub after_each_next : NextLaw limit (IsAfter s R) (next_after s f) d
        after_each_next = next_after_law

      -- items with commas between them
      listed_some : Law limit (AreListed R) (listed_from f false) 1 d d
      listed_some =
          then_law limit R (AreListed R) f (λ x ts. after_each Comma f ts >>= λ l. Ok (x ∷ l.0, l.1)) 1 0 d d d law
          (λ rest. (rest, λ x. (x ∷ [], λ ts is. listed is no_more))) (λ x.
          then_law limit (AreMany (IsAfter Comma R)) _ (after_each Comma f) (λ l ts. Ok (x ∷ l, ts)) 0 0 d d d
          (after_each_law Comma refl (λ o. o)) (λ rest. (rest, λ l. (x ∷ l, λ ts ls us is. listed is ls)))
          (λ l ts. record {
            taken = [];
            parts = refl;
            some = omega arith;
            no_end = tt;
            level = refl;
            shallow = tt;
            is = λ other us ls vs is. listed is ls;
            again = λ other same. refl;
          }))

      listed_none : Law limit (AreListed R) (listed_from f true) 0 d d
      listed_none = give_law limit (AreListed R) [] d (λ ts. none_listed)

      by_close : (ts : List Tok) (b : Bool) → is_next (mark CloseParen) ts ≡ b →
          LawAt limit (AreListed R) (Says (listed_at f)) 0 d d ts (listed_from f b ts)
      unfolding listed_at
      by_close ts true e = said limit (AreListed R) (Says (listed_from f true)) (Says (listed_at f)) 0 d d ts
          (λ us q same s. ap (λ b. listed_from f b us) (is_next-same (mark CloseParen) ts us same ∙ e) ∙ s)
          (listed_from f true ts) (listed_none ts)
      by_close ts false e = said limit (AreListed R) (Says (listed_from f false)) (Says (listed_at f)) 0 d d ts
          (λ us q same s. ap (λ b. listed_from f b us) (is_next-same (mark CloseParen) ts us same ∙ e) ∙ s)
          (listed_from f false ts) (weaken_at limit (AreListed R) (Says (listed_from f false)) d d ts
          (listed_from f false ts) (listed_some ts))

      pub listed_law : Law limit (AreListed R) (listed_at f) 0 d d
      unfolding listed_at
      listed_law ts = by_close ts (is_next (mark CloseParen) ts) refl

  -- parts of these
  pub maybe_part : {P A : Type 0} {R : A → List Tok → List Tok → Type 0} {f : Reader A} (k : Lexeme) (d : ℕ) →
      Part P R f 1 d d → Part P (IsOptional R) (maybe_at k f) 0 d d
  maybe_part {R = R} {f = f} k d part = record {
    law = λ p. maybe_law R f d (part.law p) k;
    can = λ rest.
        (None, rest, left_out);
  }

  pub listed_part : {P A : Type 0} {R : A → List Tok → List Tok → Type 0} {f : Reader A} (d : ℕ) → Part P R f 1 d d →
      Part P (AreListed R) (listed_at f) 0 d d
  listed_part {R = R} {f = f} d part = record {
    law = λ p. listed_law R f d (part.law p);
    can = λ rest.
        ([], rest, none_listed);
  }

  pub after_each_part : {P A : Type 0} {R : A → List Tok → List Tok → Type 0} {f : Reader A} (s : Sign) (d : ℕ) →
      after_sign d s ≡ d → (IsOpening (mark s) → ⊥) → Part P R f 1 d d →
      Part P (AreMany (IsAfter s R)) (after_each s f) 0 d d
  after_each_part {R = R} {f = f} s d flat shut part = record {
    law = λ p. after_each_law R f d (part.law p) s flat
        shut;
    can = λ rest. ([], rest, no_more);
  }

  -- ---- one part or another, by the next token

  module _ {A : Type 0} (R : A → List Tok → List Tok → Type 0) (k : Lexeme) (f g : Reader A) (m d e : ℕ)
      (law_f : Law limit R f m d e) (law_g : Law limit R g m d e) where
    by_choice : (ts : List Tok) (b : Bool) → is_next k ts ≡ b →
        LawAt limit R (Says (choose k f g)) m d e ts (chosen f g b ts)
    unfolding choose
    by_choice ts true e' = said limit R (Says f) (Says (choose k f g)) m d e ts
        (λ us q same s. ap (λ b. chosen f g b us) (is_next-same k ts us same ∙ e') ∙ s) (f ts) (law_f ts)
    by_choice ts false e' = said limit R (Says g) (Says (choose k f g)) m d e ts
        (λ us q same s. ap (λ b. chosen f g b us) (is_next-same k ts us same ∙ e') ∙ s) (g ts) (law_g ts)

    pub choose_law : Law limit R (choose k f g) m d e
    unfolding choose
    choose_law ts = by_choice ts (is_next k ts) refl

  pub weaken_law : {A : Type 0} (R : A → List Tok → List Tok → Type 0) (f : Reader A) (d e : ℕ) →
      Law limit R f 1 d e → Law limit R f 0 d e
  weaken_law R f d e law ts = weaken_at limit R (Says f) d e ts (f ts) (law ts)

  -- the parts that follow some parts, chosen by the next token
  pub either : {P X B : Type 0} {R : X → B → List Tok → List Tok → Type 0} {f g : X →
      Reader B} {m d e : ℕ} (k : Lexeme) → Rest P R f m d e → Rest P R g m d e → Rest P R (λ x. choose k (f x) (g x)) m
      d e
  either {R = R} {f = f} {g = g} {m = m} {d = d} {e = e} k a b = record
      { law = λ p x. choose_law (R x) k (f x) (g x) m d e (a.law p x) (b.law p x); can = b.can }
