-- The advice on the token at a place.
use Rattle.std.proofs.Common.{◌≡◌, ◌∙◌, ℕ, ◌≤◌, zero, suc, List, [], length, Option, Some, None, option_to_list}
use Rattle.std.proofs.Common.{ap, subst, refl, arith}
use Rattle.std.specs.List.{All}
use Rattle.std.proofs.lemmas.List.{length-map, length-take-le}
use Rattle.explanation.specs.Notes.{Note}
use Rattle.source.specs.declared.fault.Code.{Code}
use Rattle.source.specs.declared.fault.Code.TheVariants.{UnexpectedToken}
use Rattle.source.specs.declared.token.Token.{Token}
use Rattle.source.specs.Tokens.{Tok, seen}
use Rattle.explanation_tokens.specs.declared.trial.TokenPlace.{TokenPlace}
use Rattle.explanation_tokens.specs.Advice.{advice_on}
use Rattle.explanation_tokens.specs.Expected.{AreInOrder, IsBehind, StartBefore}
use Rattle.explanation_tokens.specs.Told.{IsAdvice, IsAdvised}
use Rattle.explanation_tokens.specs.Working.Trials.{IsPlace, before_in}
use Rattle.explanation_tokens.proofs.Spots.{behind_place, place_behind, same_number}

-- without a place, there is no advice
pub none_advised : (ts : List Tok) (code : Code) (start : ℕ) →
    (AreInOrder ts start → code ≡ UnexpectedToken → (before : List Tok) → IsBehind ts start before → ⊥) → IsAdvised ts code start []
none_advised ts code start none = record {
  are_advice = λ k d within. absurd (omega arith);
  told = λ order is before behind. absurd (none order is before behind);
}

module _ (tokens : List Token) (start : ℕ) (place : TokenPlace) (at : IsPlace tokens start place) where
  as_many : length (before_in place tokens) ≡ place.number
  as_many = length-take-le place.number (seen tokens) (rw length-map at.behind.within)

  each : (code : Code) → code ≡ UnexpectedToken → (o : Option Note) → advice_on (seen tokens) place.number ≡ o →
      All (IsAdvice (seen tokens) code start) (option_to_list o)
  each code is None first k d within = absurd (omega arith)
  each code is (Some note) first zero d within = record {
    unexpected = is;
    before = before_in place tokens;
    place = behind_place tokens start place at;
    first = ap (advice_on (seen tokens)) as_many ∙ first;
  }
  each code is (Some note) first (suc k) d within = absurd (omega arith)

  same_there : (order : AreInOrder (seen tokens) start) (before : List Tok) → IsBehind (seen tokens) start before →
      place.number ≡ length before
  same_there order before behind =
      let there = place_behind tokens start before behind (order.rise before behind) in
      let first = subst (λ (k : ℕ). StartBefore (before_in place tokens) k) at.same at.behind.before in
      let second = there.behind.before in
      same_number (seen tokens) place.number (length before) start at.token there.token first second at.there there.there at.starts there.starts

  pub are_advised : (code : Code) → code ≡ UnexpectedToken →
      IsAdvised (seen tokens) code start (option_to_list (advice_on (seen tokens) place.number))
  are_advised code is = record {
    are_advice = each code is (advice_on (seen tokens) place.number) refl;
    told = λ order same before behind.
        ap (λ (k : ℕ). option_to_list (advice_on (seen tokens) k)) (same_there order before behind);
  }

pub at_most_one : (o : Option Note) → length (option_to_list o) ≤ 1
at_most_one None = omega arith
at_most_one (Some note) = omega arith
