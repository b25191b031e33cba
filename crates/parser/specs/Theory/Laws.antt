-- The law of each reader.
use Rattle.std.proofs.Common.{◌≡◌, ℕ, zero, suc, ◌<◌, List, [], length, Option, Some, None, Result, Ok, Err, refl, ap}
use Rattle.std.proofs.Common.{◌∙◌, length-append, arith}
use Rattle.std.specs.Prelude.{IfSome}
use Rattle.source.specs.Tokens.{Tok}
use Rattle.parser.specs.declared.stop.Stop.{Stop}
use Rattle.parser.specs.declared.stop.Stop.TheVariants.{Unexpected, TooDeep, NoMemory}
use Rattle.parser.specs.Working.Reading.{◌>>=◌, Reader, Next, turn, many_at}
use Rattle.parser.specs.Theory.Readers.{OnValue, Shortens}
use Rattle.parser.specs.Theory.Many.{NextShortens, many_at-turn}
use Rattle.parser.specs.Theory.Law.{SameNext, Took, LawAt, Then, then_at, Says, Law}

abbrev pub SaysNext : {A : Type 0} → Next A → List Tok → Result (A × List Tok) Stop → Type 0
SaysNext next ts r = next ts ≡ Some r

module _ (limit : ℕ) where
  -- ---- the law, as a fact about lengths

  took_shorter : {A : Type 0} (R : A → List Tok → List Tok → Type 0) (S : List Tok → Result (A × List Tok) Stop →
      Type 0) (d e : ℕ) (ts : List Tok) (r : Result (A × List Tok) Stop) → LawAt limit R S 1 d e ts r → OnValue r
      (λ x. length x.1 < length ts)
  took_shorter R S d e ts (Ok x) t = omega (arith, ap length t.parts, length-append t.taken x.1, t.some)
  took_shorter R S d e ts (Err e') t = tt

  left_less : {A : Type 0} (R : A → List Tok → List Tok → Type 0) (S : List Tok → Result (A × List Tok) Stop →
      Type 0) (d e : ℕ) (ts : List Tok) (x : A) (rest : List Tok) → Took limit R S 1 d e ts x rest → length rest <
      length ts
  left_less R S d e ts x rest t = omega (arith, ap length t.parts, length-append t.taken rest, t.some)

  pub law_shortens : {A : Type 0} (R : A → List Tok → List Tok → Type 0) (f : Reader A) (d e : ℕ) →
      Law limit R f 1 d e → Shortens f
  law_shortens R f d e law ts = took_shorter R (Says f) d e ts (f ts) (law ts)

  pub weaken_at : {A : Type 0} (R : A → List Tok → List Tok → Type 0) (S : List Tok → Result (A × List Tok) Stop →
      Type 0) (d e : ℕ) (ts : List Tok) (r : Result (A × List Tok) Stop) → LawAt limit R S 1 d e ts r → LawAt limit R S
      0 d e ts r
  weaken_at R S d e ts (Ok x) t = record {
    taken = t.taken;
    parts = t.parts;
    some = omega arith;
    no_end = t.no_end;
    level = t.level;
    shallow = t.shallow;
    is = t.is;
    again = t.again;
  }
  weaken_at R S d e ts (Err (Unexpected zero)) t = t
  weaken_at R S d e ts (Err (Unexpected (suc n))) t = record {
    before = t.before;
    token = t.token;
    after = t.after;
    parts = t.parts;
    place = t.place;
    again = t.again;
    shallow = t.shallow;
    begun = t.begun;
  }
  weaken_at R S d e ts (Err (TooDeep n)) t = record {
    before = t.before;
    token = t.token;
    after = t.after;
    parts =
        t.parts;
    place = t.place;
    opens = t.opens;
    deep = t.deep;
    shallow = t.shallow;
    expected = t.expected;
  }
  weaken_at R S d e ts (Err NoMemory) t = t

  -- ---- repetition

  abbrev pub NextAt : {A : Type 0} → (A → List Tok → List Tok → Type 0) → Next A → ℕ → List Tok →
      Option (Result (A × List Tok) Stop) → Type 0
  NextAt R next d ts None = (other : List Tok) → SameNext ts other → next other ≡ None
  NextAt R next d ts (Some r) = LawAt limit R (SaysNext next) 1 d d ts r

  abbrev pub NextLaw : {A : Type 0} → (A → List Tok → List Tok → Type 0) → Next A → ℕ → Type 0
  NextLaw R next d = (ts : List Tok) → NextAt R next d ts (next ts)

  next_shorter : {A : Type 0} (R : A → List Tok → List Tok →
      Type 0) (next : Next A) (d : ℕ) (ts : List Tok) (o : Option (Result (A × List Tok) Stop)) → NextAt R next d ts o →
      IfSome o (λ r. OnValue r (λ x. length x.1 < length ts))
  next_shorter R next d ts None h = tt
  next_shorter R next d ts (Some r) h = took_shorter R (SaysNext next) d d ts r h

  pub next_shortens : {A : Type 0} (R : A → List Tok → List Tok → Type 0) (next : Next A) (d : ℕ) → NextLaw R next d →
      NextShortens next
  next_shortens R next d law ts = next_shorter R next d ts (next ts) (law ts)

  module _ {A L : Type 0} (R : A → List Tok → List Tok → Type 0) (RL : L → List Tok → List Tok → Type 0) (nil : L)
      (cons : A → L → L) (next : Next A) (d : ℕ) (law : NextLaw R next d) (nil_is : (ts : List Tok) → RL nil ts ts)
      (cons_is : (x : A) (l : L) (ts mid rest : List Tok) → R x ts mid → RL l mid rest → RL (cons x l) ts rest) where
    abbrev many : Reader L
    many = many_at nil cons next

    by_turn : (ts : List Tok) → many ts ≡ turn nil cons many (next ts) ts
    by_turn = many_at-turn nil cons next (next_shortens R next d law)

    abbrev more : A → Reader L
    more x ts = many ts >>= λ l. Ok (cons x l.0, l.1)

    more_law : (x : A) (ts : List Tok) → LawAt limit RL (Says many) 0 d d ts (many ts) →
        LawAt limit (Then R RL x) (Says (more x)) 0 d d ts (more x ts)
    more_law x ts ih =
        then_at limit RL (Then R RL x) (Says many) (λ l ts q. Ok (cons x l, ts) ≡ q) (Says (more x))
        (λ ts rest l q p s. ap (λ (r : Result (L × List Tok) Stop). r >>= λ l. Ok (cons x l.0, l.1)) p ∙ s)
        (λ ts e p. ap (λ (r : Result (L × List Tok) Stop). r >>= λ l. Ok (cons x l.0, l.1)) p) 0 0 d d d ts
        (many ts) (λ l ts. Ok (cons x l, ts)) ih (λ rest. (
          rest,
          λ l.
              (cons x l, λ ts1 is1 ts2 is2. cons_is x l ts2 ts1 rest is2 is1),
        ))
        (λ l rest took. record {
          taken = [];
          parts = refl;
          some = omega arith;
          no_end = tt;
          level = refl;
          shallow = tt;
          is = λ other ts1 is1 ts2 is2. cons_is x l ts2 ts1 other is2 is1;
          again = λ other same. refl;
        })

    turn_law : (ts : List Tok) (o : Option (Result (A × List Tok) Stop)) → next ts ≡ o → NextAt R next d ts o →
        ((rest : List Tok) → length rest < length ts → LawAt limit RL (Says many) 0 d d rest (many rest)) →
        LawAt limit RL (Says many) 0 d d ts (turn nil cons many o ts)
    turn_law ts None e h ih = record {
      taken = [];
      parts = refl;
      some = omega arith;
      no_end = tt;
      level = refl;
      shallow
          = tt;
      is = nil_is;
      again = λ other same. by_turn other ∙ ap (λ o. turn nil cons many o other) (h other same);
    }
    turn_law ts (Some r) e h ih = weaken_at RL (Says many) d d ts (turn nil cons many (Some r) ts)
        (then_at limit R RL (SaysNext next) (λ x. Says (more x)) (Says many)
        (λ ts rest x q p s. by_turn ts ∙ ap (λ o. turn nil cons many o ts) p ∙ s)
        (λ ts e p. by_turn ts ∙ ap (λ o. turn nil cons many o ts) p) 1 0 d d d ts r more h
        (λ rest. (rest, λ x. (cons x nil, λ us is. cons_is x nil us rest rest is (nil_is rest))))
        (λ x rest took. more_law x rest (ih rest (left_less R (SaysNext next) d d ts x rest took))))

    many_law_in : (n : ℕ) (ts : List Tok) → length ts < n → LawAt limit RL (Says many) 0 d d ts (many ts)
    many_law_in zero ts lt = absurd (omega arith)
    many_law_in (suc n) ts lt = rw (by_turn ts) (turn_law ts (next ts) refl (law ts)
        (λ rest less. many_law_in n rest (omega arith)))

    pub many_law : Law limit RL many 0 d d
    many_law ts = many_law_in (suc (length ts)) ts (omega arith)
