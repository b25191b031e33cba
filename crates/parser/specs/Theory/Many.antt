-- Repetition, a turn at a time.
use Rattle.std.proofs.Common.{◌≡◌, ℕ, zero, suc, ◌<◌, ◌≤◌, List, length, Option, Some, None, Result, Ok, Err, refl}
use Rattle.std.proofs.Common.{sym, ap, ◌∙◌, arith}
use Rattle.std.specs.Prelude.{IfSome}
use Rattle.source.specs.Tokens.{Tok}
use Rattle.parser.specs.declared.stop.Stop.{Stop}
use Rattle.parser.specs.declared.stop.Stop.TheVariants.{Unexpected, TooDeep, NoMemory}
use Rattle.parser.specs.Working.Reading.{◌>>=◌, Fails, Reader, Next, turn, many_in, many_at}
use Rattle.parser.specs.Theory.Readers.{OnValue, on_then, then_same, Bounds}

-- an item takes a token at least
abbrev pub NextShortens : {A : Type 0} → Next A → Type 0
NextShortens next = (ts : List Tok) → IfSome (next ts) (λ r. OnValue r (λ x. length x.1 < length ts))

module _ {A L : Type 0} (nil : L) (cons : A → L → L) where
  -- a turn depends on what follows it only for fewer tokens
  turn_same : (f g : Reader L) (o : Option (Result (A × List Tok) Stop)) (ts : List Tok) →
      IfSome o (λ r. OnValue r (λ x. length x.1 < length ts)) →
      ((rest : List Tok) → length rest < length ts → f rest ≡ g rest) → turn nil cons f o ts ≡ turn nil cons g o ts
  turn_same f g None ts h same = refl
  turn_same f g (Some r) ts h same =
      then_same r (λ x. f x.1 >>= λ l. Ok (cons x.0 l.0, l.1)) (λ x. g x.1 >>= λ l. Ok (cons x.0 l.0, l.1))
      (λ x. length x.1 < length ts) h (λ x less. ap (λ (r : Result (L × List Tok) Stop). r >>= λ l. Ok
      (cons x.0 l.0, l.1)) (same x.1 less))

  turned : (f : Reader L) → Bounds f → (ts : List Tok) (o : Option (Result (A × List Tok) Stop)) →
      IfSome o (λ r. OnValue r (λ x. length x.1 < length ts)) →
      OnValue (turn nil cons f o ts) (λ x. length x.1 ≤ length ts)
  turned f bound ts None h = omega arith
  turned f bound ts (Some r) h =
      on_then r _ (λ x. length x.1 < length ts) _ h (λ x less. on_then (f x.1) _ (λ l. length l.1 ≤ length x.1) _
      (bound x.1) (λ l le. omega arith))

  module _ (next : Next A) (shorter : NextShortens next) where
    enough : (n m : ℕ) (ts : List Tok) → length ts < n → length ts < m →
        many_in nil cons next n ts ≡ many_in nil cons next m ts
    enough zero m ts h g = absurd (omega arith)
    enough (suc n) zero ts h g = absurd (omega arith)
    enough (suc n) (suc m) ts h g =
        turn_same (many_in nil cons next n) (many_in nil cons next m) (next ts) ts (shorter ts)
        (λ rest less. enough n m rest (omega arith) (omega arith))

    pub many_at-turn : (ts : List Tok) → many_at nil cons next ts ≡ turn nil cons (many_at nil cons next) (next ts) ts
    unfolding many_at
    many_at-turn ts =
        turn_same (many_in nil cons next (length ts)) (many_at nil cons next) (next ts) ts (shorter ts)
        (λ rest less. enough (length ts) (suc (length rest)) rest less (omega arith))

    turn_bounds : (n : ℕ) (ts : List Tok) → OnValue (many_in nil cons next n ts) (λ x. length x.1 ≤ length ts)
    turn_bounds zero ts = omega arith
    turn_bounds (suc n) ts = turned (many_in nil cons next n) (turn_bounds n) ts (next ts) (shorter ts)

    pub many_bounds : Bounds (many_at nil cons next)
    unfolding many_at
    many_bounds ts = turn_bounds (suc (length ts)) ts

-- ---- the loop: `front` puts the items read before in front of those still read

abbrev pub with_front : {L : Type 0} → (L → L) → Result (L × List Tok) Stop → Result (L × List Tok) Stop
with_front front read = read >>= λ l. Ok (front l.0, l.1)

regroup : {A L : Type 0} (cons : A → L → L) (front more_front : L → L) (x : A) (read : Result (L × List Tok) Stop) →
    ((l : L) → more_front l ≡ front (cons x l)) →
    with_front front (read >>= λ l. Ok (cons x l.0, l.1)) ≡ with_front more_front read
regroup cons front more_front x (Ok l) same = ap (λ ls. Ok (ls, l.1)) (sym (same l.0))
regroup cons front more_front x (Err e) same = refl

module _ {A L : Type 0} (nil : L) (cons : A → L → L) (next : Next A) (shorter : NextShortens next) where
  pub goes_on : (front more_front : L → L) (ts rest : List Tok) (x : A) (total : Result (L × List Tok) Stop) →
      next ts ≡ Some (Ok (x, rest)) → ((l : L) → more_front l ≡ front (cons x l))
      → with_front front (many_at nil cons next ts) ≡ total → with_front more_front (many_at nil cons next rest) ≡ total
  goes_on front more_front ts rest x total found same so_far =
      let one : many_at nil cons next ts ≡ (many_at nil cons next rest >>= λ l. Ok (cons x l.0, l.1)) = many_at-turn nil
      cons next shorter ts ∙ ap (λ o. turn nil cons (many_at nil cons next) o ts) found in
      sym (ap (with_front front) one ∙ regroup cons front more_front x (many_at nil cons next rest) same) ∙ so_far

  pub ends : (front : L → L) (ts : List Tok) (total : Result (L × List Tok) Stop) → next ts ≡ None →
      with_front front (many_at nil cons next ts) ≡ total → total ≡ Ok (front nil, ts)
  ends front ts total found so_far =
      let one : many_at nil cons next ts ≡ Ok (nil, ts) = many_at-turn nil cons next shorter ts ∙ ap
      (λ o. turn nil cons (many_at nil cons next) o ts) found in
      sym so_far ∙ ap (with_front front) one

  failed : (e : Stop) (front : L → L) (ts : List Tok) (total : Result (L × List Tok) Stop) → next ts ≡ Some (Err e) →
      with_front front (many_at nil cons next ts) ≡ total → total ≡ Err e
  failed e front ts total found so_far =
      let one : many_at nil cons next ts ≡ Err e = many_at-turn nil cons next shorter ts ∙ ap
      (λ o. turn nil cons (many_at nil cons next) o ts) found in
      sym so_far ∙ ap (with_front front) one

  pub stops : (e : Stop) (front : L →
      L) (ts : List Tok) (r : Result (A × List Tok) Stop) (total : Result (L × List Tok) Stop) → next ts ≡ Some r →
      Fails e r → with_front front (many_at nil cons next ts) ≡ total → Fails e total
  stops NoMemory front ts r total found fails so_far = tt
  stops (Unexpected n) front ts r total found fails so_far = failed (Unexpected n) front ts total
      (found ∙ ap Some fails) so_far
  stops (TooDeep n) front ts r total found fails so_far = failed (TooDeep n) front ts total (found ∙ ap Some fails)
      so_far
