-- The tokens seen so far, and the first row that fits.
use Rattle.std.proofs.Common.{◌≡◌, ◌∙◌, ℕ, zero, suc, ◌+◌, ◌<◌, Bool, true, false, cond, List, [], ◌∷◌, length, take, get_or}
use Rattle.std.proofs.Common.{Option, Some, None, ap, sym, arith}
use Rattle.std.specs.List.{find}
use Rattle.std.specs.Option.{option_or}
use Rattle.std.proofs.lemmas.List.{map-append, take_more, take-map}
use Rattle.std.proofs.lemmas.List.Folds.{find-append}
use Rattle.std.proofs.lemmas.List.Sums.{fold-append}
use Rattle.source.specs.declared.token.Token.{Token}
use Rattle.source.specs.Tokens.{Tok, seen, seen_token}
use Rattle.explanation_tokens.specs.declared.area.Area.{Area}
use Rattle.explanation_tokens.specs.declared.area.Opened.{Opened}
use Rattle.explanation_tokens.specs.declared.view.View.{View}
use Rattle.explanation_tokens.specs.Advice.{advice_on}
use Rattle.explanation_tokens.specs.Around.{around, area_of, at_first, behind_all, step}
use Rattle.explanation_tokens.specs.Working.Seen.{IsView, noted, noted_at}

-- one token more
pub behind_more : (tokens : List Token) (i : ℕ) (d : Token) → i < length tokens →
    behind_all (seen (take (i + 1) tokens)) ≡ step (behind_all (seen (take i tokens))) (seen_token (get_or tokens i d))
behind_more tokens i d within =
    ap (λ (l : List Token). behind_all (seen l)) (take_more tokens i d within)
    ∙ ap behind_all (map-append seen_token (take i tokens) (get_or tokens i d ∷ []))
    ∙ fold-append step at_first (seen (take i tokens)) (seen_token (get_or tokens i d) ∷ [])

-- the tokens before a place
pub seen_front : (tokens : List Token) (n : ℕ) → seen (take n tokens) ≡ take n (seen tokens)
seen_front tokens n = sym (take-map seen_token n tokens)

-- one row more, which fits or does not
pub found_at : {X : Type 0} (p : X → Bool) (xs : List X) (i : ℕ) (d : X) → i < length xs → find p (take i xs) ≡ None →
    p (get_or xs i d) ≡ true → find p xs ≡ Some (get_or xs i d)
found_at p [] i d within none is = absurd (omega arith)
found_at p (x ∷ xs) zero d within none is = ap (λ (b : Bool). cond b (Some x) (find p xs)) is
found_at p (x ∷ xs) (suc i) d within none is =
    elim (p x) as (λ b. cond b (Some x) (find p (take i xs)) ≡ None → cond b (Some x) (find p xs) ≡ Some (get_or xs i d)) [
      | true ↦ λ h. cc
      | false ↦ λ h. found_at p xs i d (omega arith) h is
    ] none

pub none_more : {X : Type 0} (p : X → Bool) (xs : List X) (i : ℕ) (d : X) → i < length xs → find p (take i xs) ≡ None →
    p (get_or xs i d) ≡ false → find p (take (i + 1) xs) ≡ None
none_more p xs i d within none is =
    ap (find p) (take_more xs i d within)
    ∙ find-append p (take i xs) (get_or xs i d ∷ [])
    ∙ ap (λ o. option_or o (find p (get_or xs i d ∷ []))) none
    ∙ ap (λ (b : Bool). cond b (Some (get_or xs i d)) None) is

-- the note on a view is the advice at its place
pub noted_is : (view : View) (ts : List Tok) (n : ℕ) → IsView view ts n → noted view ≡ advice_on ts n
noted_is view ts n is =
    ap (λ (l : List Tok). noted_at l view.number view.area view.inner) is.tokens
    ∙ ap (λ (k : ℕ). noted_at ts k view.area view.inner) is.number
    ∙ ap (λ (area : Area). noted_at ts n area view.inner) is.area
    ∙ ap (λ (inner : Option Opened). noted_at ts n (area_of (around n ts)) inner) is.inner
