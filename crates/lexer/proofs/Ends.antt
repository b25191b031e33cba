-- The results of `lex`, as facts about the whole text.
use Rattle.std.proofs.Common.{◌≡◌, ℕ, suc, Bool, true, false, ◌-◌, ◌<◌, ◌≤◌, List, [], ◌∷◌, ◌++◌, length, Ok, refl}
use Rattle.std.proofs.Common.{sym, ap, ◌∙◌, subst, arith}
use Rattle.std.specs.Prelude.{◌==◌}
use Rattle.std.proofs.lemmas.Bool.{eqb-true}
use Rattle.std.proofs.lemmas.List.{map_push}
use Rattle.source.specs.declared.fault.Code.{Code}
use Rattle.source.specs.declared.fault.Code.TheVariants.{LimitExceeded}
use Rattle.source.specs.declared.fault.Fault as the_fault
use Rattle.source.specs.declared.fault.Refusal.{Refusal}
use Rattle.source.specs.declared.fault.Refusal.TheVariants.{Fault, NoMemory}
use Rattle.source.specs.Faults.{IsBare, IsFaultAt}
use Rattle.source.specs.declared.token.Token.{Token}
use Rattle.source.specs.Tokens.{Lexeme, end, Tok, seen, seen_token}
use Rattle.source.specs.Texts.{SOURCE_LIMIT, HasTokens, DoRise, AreSlices, IsFaultFrom, IsFault, too_big, within}
use Rattle.source.specs.Texts.{IsRefusal, end_at}
use Rattle.lexer.specs.declared.token_error.TokenError.{TokenError}
use Rattle.lexer.specs.declared.token_error.TokenError.TheVariants as stop
use Rattle.lexer.specs.Working.Reading.{skip, unit_at, Fails, Refuses}
use Rattle.lexer.proofs.Steps.{State, token_on, end_found, end_only, no_fault, no_tokens, one_fault, is_fault}
use Rattle.lexer.proofs.Steps.{tokens_rise, tokens_sliced}

abbrev pub tok_of : Lexeme → ℕ → ℕ → Tok
tok_of k from to = record { kind = k; span = record { start = from; end = to } }

pub none_left : (at : List ℕ) (b : Bool) → b ≡ (length at == 0) → b ≡ true → at ≡ []
none_left [] b e h = refl
none_left (x ∷ at) b e h = let n : suc (length at) ≡ 0 = eqb-true (suc (length at)) 0 (sym e ∙ h) in absurd (omega arith)

pub some_left : (at : List ℕ) (b : Bool) → b ≡ (length at == 0) → b ≡ false → at ≡ [] → ⊥
some_left at b e h n = let f : (length at == 0) ≡ false = sym e ∙ h in let g : (length at == 0) ≡ true = rw n refl in absurd cc

-- the end token, at the index at which the code puts it
pub end_seen : (text at : List ℕ) → at ≡ [] →
    tok_of end (length text - length at) (length text - length at) ≡ end_at (length text)
end_seen text at e = let n : length text - length at ≡ length text = omega (arith, ap length e) in ap (λ n. tok_of end n n) n

-- a fault of a text within the limit
fault_within : {text : List ℕ} {c : Code} {start : ℕ} → IsFault text c start → length text ≤ SOURCE_LIMIT →
    IsFaultFrom (length text) text c start
fault_within (too_big l) h = absurd (omega arith)
fault_within (within l f) h = f

-- a text over the limit has one fault
fault_big : {text : List ℕ} {c : Code} {start : ℕ} → IsFault text c start → SOURCE_LIMIT < length text →
    (c ≡ LimitExceeded) × (start ≡ 0)
fault_big (too_big l) h = (refl, refl)
fault_big (within l f) h = absurd (omega arith)

pub big_refused : (text : List ℕ) (f : the_fault.Fault) → SOURCE_LIMIT < length text → IsBare LimitExceeded 0 f →
    (code : Code) (start : ℕ) → IsFault text code start → IsFaultAt code start (Fault f)
big_refused text f h is code start g = let e = fault_big g h in rw (e.0, e.1) is

module _ (text rest : List ℕ) (tokens : List Token) (state : State (length text) text rest (seen tokens)) where
  seen_push : (t : Token) → seen (tokens ++ t ∷ []) ≡ seen tokens ++ seen_token t ∷ []
  seen_push t = map_push seen_token tokens t

  pub went_on : (k : Lexeme) (behind : List ℕ) (t : Token) → unit_at (skip rest) ≡ Ok (k, behind) →
      seen_token t ≡ record { kind = k; span = record { start = length text - length (skip rest); end = length text - length behind } } → State (length text) text behind (seen (tokens ++ t ∷ []))
  went_on k behind t e is = subst (State (length text) text behind) (sym (seen_push t)) (token_on (length text) text rest (seen tokens) state k behind (seen_token t) e is)

  module _ (t : Token) (last : seen_token t ≡ end_at (length text)) (done : skip rest ≡ []) where
    all_seen : seen tokens ++ end_at (length text) ∷ [] ≡ seen (tokens ++ t ∷ [])
    all_seen = ap (λ (x : Tok). seen tokens ++ x ∷ []) (sym last) ∙ sym (seen_push t)

    pub all_found : HasTokens text (seen (tokens ++ t ∷ []))
    all_found = subst (HasTokens text) all_seen (end_found (length text) text rest (seen tokens) state done)

    pub all_rise : DoRise 0 (seen (tokens ++ t ∷ []))
    all_rise = tokens_rise text (seen (tokens ++ t ∷ [])) all_found

    pub all_sliced : AreSlices text (seen (tokens ++ t ∷ []))
    all_sliced = tokens_sliced text (seen (tokens ++ t ∷ [])) all_found

    pub all_only : (ts : List Tok) → HasTokens text ts → seen (tokens ++ t ∷ []) ≡ ts
    all_only ts h = sym all_seen ∙ end_only (length text) text rest (seen tokens) state done ts h

  pub none_refused : skip rest ≡ [] → length text ≤ SOURCE_LIMIT → (code : Code) (start : ℕ) →
      IsFault text code start → ⊥
  none_refused done l code start h = no_fault (length text) text rest (seen tokens) state done code start (fault_within h l)

  module _ (some : skip rest ≡ [] → ⊥) (l : length text ≤ SOURCE_LIMIT) where
    pub stop_fault : (e : TokenError) (r : Refusal) → Fails e (unit_at (skip rest)) →
        Refuses e (length text - length (skip rest)) r → IsRefusal text r
    stop_fault (stop.Bad c) (Fault f) h is = (rw (is.0, is.1) (within l (is_fault (length text) text rest (seen tokens) state c h some)), is.2)
    stop_fault (stop.Bad c) NoMemory h is = absurd is
    stop_fault stop.NoMemory r h is = rw is tt

    pub stop_only : (e : TokenError) (r : Refusal) → Fails e (unit_at (skip rest)) →
        Refuses e (length text - length (skip rest)) r → (ts : List Tok) → HasTokens text ts → r ≡ NoMemory
    stop_only (stop.Bad c) r h is ts g = absurd (no_tokens (length text) text rest (seen tokens) state c h some ts g)
    stop_only stop.NoMemory r h is ts g = is

    pub stop_refused : (e : TokenError) (r : Refusal) → Fails e (unit_at (skip rest)) →
        Refuses e (length text - length (skip rest)) r → (code : Code) (start : ℕ) → IsFault text code start →
        IsFaultAt code start r
    stop_refused (stop.Bad c) (Fault f) h is code start g =
        let p = one_fault (length text) text rest (seen tokens) state c h some code start (fault_within g l) in
        rw (sym p.0, sym p.1) is
    stop_refused (stop.Bad c) NoMemory h is code start g = tt
    stop_refused stop.NoMemory r h is code start g = rw is tt
