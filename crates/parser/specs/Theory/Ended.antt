-- The result of `ended_by`: a part was read, and the sign after it.
use Rattle.std.proofs.Common.{◌≡◌, List, Result, Ok, Err, refl, ap, ◌∙◌}
use Rattle.source.specs.declared.span.Span.{Span}
use Rattle.source.specs.declared.token.Sign.{Sign}
use Rattle.source.specs.Tokens.{Tok}
use Rattle.parser.specs.declared.stop.Stop.{Stop}
use Rattle.parser.specs.declared.stop.Stop.TheVariants.{Unexpected, TooDeep, NoMemory}
use Rattle.parser.specs.Working.Reading.{◌>>=◌, Fails, Gives, Reader, sign_at, closed_at, closing}
use Rattle.parser.specs.Theory.Readers.{fails_on}

-- the tokens between a part and its sign
pub record Ended {A : Type 0} (s : Sign) (part : Reader A) (ts rest : List Tok) (x : A) : Type 0 where
  pub between : List Tok
  pub at : Span
  pub read : part ts ≡ Ok (x, between)
  pub sign : sign_at s between ≡ Ok (at, rest)

record SignRead {T : Type 0} (m : Result (Span × List Tok) Stop) (a y : T) (rest : List Tok) : Type 0 where
  at : Span
  is : m ≡ Ok (at, rest)
  same : a ≡ y

abbrev kept : {T : Type 0} → T → Span × List Tok → Result (T × List Tok) Stop
kept x c = Ok (x, c.1)

sign_read : {T : Type 0} (m : Result (Span × List Tok) Stop) (a y : T) (rest : List Tok) →
    (m >>= kept a) ≡ Ok (y, rest) → SignRead m a y rest
sign_read (Ok c) a y rest h =
    let both : (a, c.1) ≡ (y, rest) = cc h in
    record { at = c.0; is = ap (λ (x : _ × List Tok). Ok (c.0, x.1)) both; same = ap (λ (x : _ × List Tok). x.0) both }
sign_read (Err e) a y rest h = absurd cc

-- a failure stays, whatever follows
fails_more : {X Y Z : Type 0} (e : Stop) (r : Result X Stop) (f : X → Result Y Stop) (g : X → Result Z Stop) →
    ((x : X) → Fails e (f x) → Fails e (g x)) → Fails e (r >>= f) → Fails e (r >>= g)
fails_more e (Ok x) f g h fails = h x fails
fails_more NoMemory (Err e) f g h fails = tt
fails_more (Unexpected n) (Err e) f g h fails = let same : e ≡ Unexpected n = cc fails in ap (λ (e : Stop). Err e) same
fails_more (TooDeep n) (Err e) f g h fails = let same : e ≡ TooDeep n = cc fails in ap (λ (e : Stop). Err e) same

never_fails : {X Y : Type 0} (e : Stop) (x : X) (r : Result Y Stop) → Fails {Y = X} e (Ok x) → Fails e r
never_fails NoMemory x r h = tt
never_fails (Unexpected n) x r h = absurd cc
never_fails (TooDeep n) x r h = absurd cc

passed_on : {Y : Type 0} (X : Type 0) (e d : Stop) (r : Result Y Stop) → Fails d r → Fails {Y = X} e (Err d) → Fails e r
passed_on X NoMemory d r h g = tt
passed_on X (Unexpected n) NoMemory r h g = absurd cc
passed_on X (Unexpected n) (Unexpected m) r h g = cc
passed_on X (Unexpected n) (TooDeep m) r h g = absurd cc
passed_on X (TooDeep n) NoMemory r h g = absurd cc
passed_on X (TooDeep n) (Unexpected m) r h g = absurd cc
passed_on X (TooDeep n) (TooDeep m) r h g = cc

module _ {T R A : Type 0} (s : Sign) (part : Reader A) (ts : List Tok) where
  pub ended : (read : Result (T × R) Stop) (view : T → A) (see : R → List Tok) (y : T) (rest : List Tok) →
      Gives (λ x. (view x.0, see x.1)) read (part ts) → (closing s see read) ≡ Ok (y, rest) →
      Ended s part ts rest (view y)
  ended (Ok x) view see y rest is h =
      let found = sign_read (sign_at s (see x.1)) x.0 y rest h in
      record {
        between = see x.1;
        at = found.at;
        read = is ∙ ap (λ (a : T). Ok (view a, see x.1)) found.same;
        sign =
            found.is;
      }
  ended (Err e) view see y rest is h = absurd cc

  pub unended : {B : Type 0} (read : Result (T × R) Stop) (view : T → A) (see : R →
      List Tok) (e : Stop) (more : A × List Tok → Span × List Tok →
      Result B Stop) → Gives (λ x. (view x.0, see x.1)) read (part ts) → Fails e (closing s see read) → Fails e
      (part ts >>= λ x. sign_at s x.1 >>= more x)
  unended (Ok x) view see e more is h = rw is (fails_more e (sign_at s (see x.1)) (kept x.0) (more (view x.0, see x.1))
      (λ c never. never_fails e _ _ never) h)
  unended (Err d) view see e more is h = passed_on (T × List Tok) e d (part ts >>= λ x. sign_at s x.1 >>= more x)
      (fails_on d (part ts) (λ x. sign_at s x.1 >>= more x) is) h

  pub ended_gives : (read : Result (T × R) Stop) (view : T → A) (see : R → List Tok) (result : Result (T × R) Stop) →
      Gives (λ x. (view x.0, see x.1)) read (part ts) → Gives (λ x. (x.0, see x.1)) result (closing s see read) →
      Gives (λ x. (view x.0, see x.1)) result (closed_at s part ts)
  ended_gives read view see (Ok y) is h = let x = ended read view see y.0 (see y.1) is h in rw (x.read, x.sign) refl
  ended_gives read view see (Err e) is h = unended read view see e (λ a c. Ok (a.0, c.1)) is h
