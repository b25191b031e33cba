-- Loops that read items into a list: the items read before precede those still to come.
use Rattle.std.proofs.Common.{◌≡◌, ◌<◌, Bool, true, false, List, [], ◌∷◌, ◌++◌, length, Some, None, Result, Ok, map}
use Rattle.std.proofs.Common.{refl, sym, ap, ◌∙◌, subst, arith}
use Rattle.std.proofs.lemmas.List.{length-map}
use Rattle.source.specs.declared.token.Sign.{Sign}
use Rattle.source.specs.declared.token.Sign.TheVariants.{CloseParen, Comma}
use Rattle.source.specs.declared.token.Token.{Token}
use Rattle.source.specs.Tokens.{Lexeme, mark, Tok, seen_token, seen}
use Rattle.parser.specs.declared.stop.Stop.{Stop}
use Rattle.parser.specs.Working.Reading.{◌>>=◌, Fails, Reader, Next, many_at, is_next, next_unless, next_until}
use Rattle.parser.specs.Working.Reading.{skip_at, behind, next_after, after_each, listed_from, listed_at}
use Rattle.parser.specs.Theory.Readers.{OnValue, Shortens, fails_on}
use Rattle.parser.specs.Theory.Many.{NextShortens, with_front, goes_on, ends, stops}

-- the items of a list, in a view, before others
abbrev pub before : {X A L : Type 0} → (A → L → L) → (X → A) → List X → L → L
before cons view [] more = more
before cons view (x ∷ xs) more = cons (view x) (before cons view xs more)

pub before-push : {X A L : Type 0} (cons : A → L → L) (view : X → A) (xs : List X) (x : X) (more : L) →
    before cons view (xs ++ x ∷ []) more ≡ before cons view xs (cons (view x) more)
before-push cons view [] x more = refl
before-push cons view (y ∷ xs) x more = ap (cons (view y)) (before-push cons view xs x more)

pub before-map : {X A : Type 0} (view : X → A) (xs : List X) → before ◌∷◌ view xs [] ≡ map view xs
before-map view [] = refl
before-map view (x ∷ xs) = ap (λ (ys : List _). view x ∷ ys) (before-map view xs)

-- one turn leaves fewer tokens
pub fewer : {A : Type 0} (f : Reader A) → Shortens f → (ts rest : List Token) (x : A) →
    f (seen ts) ≡ Ok (x, seen rest) → length rest < length ts
fewer f shorter ts rest x read =
    let less = subst (λ (r : Result (_ × List Tok) Stop). OnValue r (λ x. length x.1 < length (seen ts))) read
    (shorter (seen ts)) in
    omega (arith, less, length-map ts seen_token, length-map rest seen_token)

module _ {X A L : Type 0} (nil : L) (cons : A → L → L) (view : X → A) (next : Next A) (shorter : NextShortens next)
    (xs : List X) (ts : List Tok) (total : Result (L × List Tok) Stop) where
  pub goes_on_with : (x : X) (rest : List Tok) → next ts ≡ Some (Ok (view x, rest)) →
      with_front (before cons view xs) (many_at nil cons next ts) ≡ total →
      with_front (before cons view (xs ++ x ∷ [])) (many_at nil cons next rest) ≡ total
  goes_on_with x rest found so_far = goes_on nil cons next shorter (before cons view xs)
      (before cons view (xs ++ x ∷ [])) ts rest (view x) total found (before-push cons view xs x) so_far

  pub ends_here : next ts ≡ None → with_front (before cons view xs) (many_at nil cons next ts) ≡ total →
      total ≡ Ok (before cons view xs nil, ts)
  ends_here found so_far = ends nil cons next shorter (before cons view xs) ts total found so_far

  pub stops_here : (e : Stop) (r : Result (A × List Tok) Stop) → next ts ≡ Some r → Fails e r →
      with_front (before cons view xs) (many_at nil cons next ts) ≡ total → Fails e total
  stops_here e r found fails so_far = stops nil cons next shorter e (before cons view xs) ts r total found fails so_far

-- ---- items up to a token of a kind

next_found : {A : Type 0} (k : Lexeme) (f : Reader A) (ts : List Tok) → is_next k ts ≡ false →
    next_until k f ts ≡ Some (f ts)
next_found k f ts e = ap (λ b. next_unless b (f ts)) e

next_none : {A : Type 0} (k : Lexeme) (f : Reader A) (ts : List Tok) → is_next k ts ≡ true → next_until k f ts ≡ None
next_none k f ts e = ap (λ b. next_unless b (f ts)) e

module _ {X A L : Type 0} (nil : L) (cons : A → L → L) (view : X → A) (k : Lexeme) (f : Reader A)
    (shorter : NextShortens (next_until k f)) (xs : List X) (ts : List Tok) (total : Result (L × List Tok) Stop) where
  pub until_goes_on : (x : X) (rest : List Tok) → is_next k ts ≡ false → f ts ≡ Ok (view x, rest) →
      with_front (before cons view xs) (many_at nil cons (next_until k f) ts) ≡ total →
      with_front (before cons view (xs ++ x ∷ [])) (many_at nil cons (next_until k f) rest) ≡ total
  until_goes_on x rest more read = goes_on_with nil cons view (next_until k f) shorter xs ts total x rest
      (next_found k f ts more ∙ ap Some read)

  pub until_ends : is_next k ts ≡ true →
      with_front (before cons view xs) (many_at nil cons (next_until k f) ts) ≡ total →
      total ≡ Ok (before cons view xs nil, ts)
  until_ends over = ends_here nil cons view (next_until k f) shorter xs ts total (next_none k f ts over)

  pub until_stops : (e : Stop) → is_next k ts ≡ false → Fails e (f ts) →
      with_front (before cons view xs) (many_at nil cons (next_until k f) ts) ≡ total → Fails e total
  until_stops e more fails = stops_here nil cons view (next_until k f) shorter xs ts total e (f ts)
      (next_found k f ts more) fails

-- ---- items after a sign each

module _ {X A : Type 0} (view : X → A) (s : Sign) (f : Reader A) (shorter : NextShortens (next_after s f)) (xs : List X)
    (ts : List Tok) (total : Result (List A × List Tok) Stop) where
  pub each_goes_on : (x : X) (after rest : List Tok) → skip_at s ts ≡ Some after → f after ≡ Ok (view x, rest) →
      with_front (before ◌∷◌ view xs) (after_each s f ts) ≡ total →
      with_front (before ◌∷◌ view (xs ++ x ∷ [])) (after_each s f rest) ≡ total
  unfolding after_each
  each_goes_on x after rest found read = goes_on_with [] ◌∷◌ view (next_after s f) shorter xs ts total x rest
      (ap (behind f) found ∙ ap Some read)

  pub each_ends : skip_at s ts ≡ None → with_front (before ◌∷◌ view xs) (after_each s f ts) ≡ total →
      total ≡ Ok (map view xs, ts)
  unfolding after_each
  each_ends over so_far = ends_here [] ◌∷◌ view (next_after s f) shorter xs ts total (ap (behind f) over) so_far ∙ ap
      (λ (ys : List A). Ok (ys, ts)) (before-map view xs)

  pub each_stops : (e : Stop) (after : List Tok) → skip_at s ts ≡ Some after → Fails e (f after) →
      with_front (before ◌∷◌ view xs) (after_each s f ts) ≡ total → Fails e total
  unfolding after_each
  each_stops e after found fails = stops_here [] ◌∷◌ view (next_after s f) shorter xs ts total e (f after)
      (ap (behind f) found) fails

-- ---- items with commas between them

module _ {X A : Type 0} (view : X → A) (f : Reader A) (ts : List Tok) where
  pub none_listed_at : is_next (mark CloseParen) ts ≡ true → listed_at f ts ≡ Ok ([], ts)
  unfolding listed_at
  none_listed_at e = ap (λ b. listed_from f b ts) e

  pub first_stops : (e : Stop) → is_next (mark CloseParen) ts ≡ false → Fails e (f ts) → Fails e (listed_at f ts)
  unfolding listed_at
  first_stops e more fails = subst (λ (b : Bool). Fails e (listed_from f b ts)) (sym more)
      (fails_on e (f ts) (λ x. after_each Comma f x.1 >>= λ l. Ok (x.0 ∷ l.0, l.1)) fails)

  pub first_listed : (x : X) (rest : List Tok) → is_next (mark CloseParen) ts ≡ false → f ts ≡ Ok (view x, rest) →
      with_front (before ◌∷◌ view (x ∷ [])) (after_each Comma f rest) ≡ listed_at f ts
  unfolding listed_at
  first_listed x rest more read = sym (ap (λ b. listed_from f b ts) more ∙ ap
      (λ (r : Result (A × List Tok) Stop). r >>= λ x. after_each Comma f x.1 >>= λ l. Ok (x.0 ∷ l.0, l.1)) read)
