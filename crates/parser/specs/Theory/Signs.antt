-- A part and the sign after it, with what follows; and whether a sign comes next.
use Rattle.std.proofs.Common.{◌≡◌, List, Result, Ok, Err, refl}
use Rattle.source.specs.declared.span.Span.{Span}
use Rattle.source.specs.declared.token.Sign.{Sign}
use Rattle.source.specs.Tokens.{Lexeme, name, int, word, mark, end, Tok}
use Rattle.parser.specs.declared.stop.Stop.{Stop}
use Rattle.parser.specs.Working.Reading.{◌>>=◌, Reader, same_kind, is_sign, sign_at, closed_at}

abbrev kept : {A : Type 0} → A → Span × List Tok → Result (A × List Tok) Stop
kept x c = Ok (x, c.1)

module _ {A B : Type 0} (k : A → List Tok → Result B Stop) where
  behind_sign : (r : Result (Span × List Tok) Stop) (x : A) → (r >>= λ c. k x c.1) ≡ ((r >>= kept x) >>= λ y. k y.0 y.1)
  behind_sign (Ok c) x = refl
  behind_sign (Err e) x = refl

  behind_part : (s : Sign) (ts : List Tok) (r : Result (A × List Tok) Stop) →
      (r >>= λ x. sign_at s x.1 >>= λ c. k x.0 c.1) ≡ (closed_at s (λ us. r) ts >>= λ y. k y.0 y.1)
  behind_part s ts (Ok x) = behind_sign (sign_at s x.1) x.0
  behind_part s ts (Err e) = refl

  -- a part, a sign and what follows
  pub closed_then : (s : Sign) (part : Reader A) (ts : List Tok) →
      (part ts >>= λ x. sign_at s x.1 >>= λ c. k x.0 c.1) ≡ (closed_at s part ts >>= λ y. k y.0 y.1)
  closed_then s part ts = behind_part s ts (part ts)

pub kind_is : (s : Sign) (k : Lexeme) → same_kind k (mark s) ≡ is_sign s k
kind_is s (mark m) = refl
kind_is s (name x) = refl
kind_is s (int x) = refl
kind_is s (word x) = refl
kind_is s end = refl
