-- The place of a byte, one token further.
use Rattle.std.proofs.Common.{◌≡◌, ◌∙◌, ◌≤◌, ℕ, zero, suc, ◌+◌, ◌-◌, min, length, subst, inl, inr, add-zero, List, Option, Some, None, Bool, true, false, refl, sym, ap, add-one, arith}
use Rattle.std.specs.Prelude.{if◌then◌else◌, ◌&&◌, ◌==◌, option_and_then}
use Rattle.std.specs.Option.{is_some}
use Rattle.std.proofs.lemmas.Bool.{cases_lt}
use Rattle.std.proofs.lemmas.Option.{slice_get_past}
use Rattle.source.specs.declared.token.Token.{Token}
use Rattle.lsp_texts.specs.Names.{declared, depth_at, depth_behind, sign_at, sign_in, symbol_of, text_at, text_in, word_at, word_in}
use Rattle.lsp_texts.specs.Declarations.{bound_at, is_let, is_top, owner_at}
use Rattle.lsp_texts.specs.Working.Places.{IsPlaceOf}
use Rattle.lsp_texts.specs.declared.names.Symbol.{Symbol}
use Rattle.lsp_texts.specs.declared.scopes.Place.{Place}
use Rattle.lsp_texts.proofs.SymbolLemmas.{deeper, not_deep}

no_owner : (tokens : List Token) → None ≡ owner_at tokens 0
unfolding owner_at
no_owner tokens = refl

none_bound : (tokens : List Token) → None ≡ bound_at tokens 0
unfolding bound_at
none_bound tokens = refl

pub begins : (tokens : List Token) → IsPlaceOf tokens 0 (record { depth = 0; owner = None; bound = None })
begins tokens = record { depth = not_deep tokens; few = omega arith; owner = no_owner tokens; bound = none_bound tokens }

owner_step : (tokens : List Token) (n : ℕ) → owner_at tokens (suc n) ≡ (if is_top tokens n then Some n else owner_at tokens n)
unfolding owner_at
owner_step tokens n = refl

bound_step : (tokens : List Token) (n : ℕ) → bound_at tokens (suc n) ≡ (if is_let (word_at tokens n) then Some (suc n) else bound_at tokens n)
unfolding bound_at
bound_step tokens n = refl

pub moves : (tokens : List Token) (n : ℕ) (old new : Place) → IsPlaceOf tokens n old → new.depth ≡ depth_behind old.depth (sign_at tokens n) →
    new.depth ≤ old.depth + 1 → new.owner ≡ (if is_top tokens n then Some n else old.owner) →
    new.bound ≡ (if is_let (word_at tokens n) then Some (n + 1) else old.bound) → IsPlaceOf tokens (n + 1) new
moves tokens n old new was depth few owner bound = record {
  depth = deeper tokens n old.depth new.depth was.depth depth;
  few = omega (arith, few, was.few);
  owner =
      owner ∙ ap (λ o. if is_top tokens n then Some n else o) was.owner ∙ sym (owner_step tokens n) ∙ ap (owner_at tokens) (sym (add-one n));
  bound =
      bound ∙ ap (λ o. if is_let (word_at tokens n) then Some (n + 1) else o) was.bound
      ∙ ap (λ k. if is_let (word_at tokens n) then Some k else bound_at tokens n) (add-one n)
      ∙ sym (bound_step tokens n) ∙ ap (bound_at tokens) (sym (add-one n));
}

pub chosen : (b : Bool) (x y z : Option ℕ) → b ≡ true → x ≡ y → x ≡ (if b then y else z)
chosen true x y z b is = is
chosen false x y z b is = cc

pub unchosen : (b : Bool) (x y z : Option ℕ) → b ≡ false → x ≡ z → x ≡ (if b then y else z)
unchosen true x y z b is = cc
unchosen false x y z b is = is

-- ---- after the text's end

ends_names : (b : Bool) (o : Option Symbol) → is_some (if b && false then o else None) ≡ false
ends_names true o = refl
ends_names false o = refl

none_there : (tokens : List Token) (n : ℕ) → length tokens ≤ n → text_at tokens n ≡ None
none_there tokens n past = ap (option_and_then text_in) (slice_get_past tokens n past)

stays : (tokens : List Token) (n : ℕ) (place : Place) → length tokens ≤ n → IsPlaceOf tokens n place → IsPlaceOf tokens (n + 1) place
stays tokens n place past is =
    let none = none_there tokens n past in
    let no_top : is_top tokens n ≡ false =
    ap (λ t. is_some (if (depth_at tokens n == 0) && is_some t then symbol_of n (declared tokens n) else None)) none
    ∙ ends_names (depth_at tokens n == 0) (symbol_of n (declared tokens n)) in
    let no_let : is_let (word_at tokens n) ≡ false = ap (λ t. is_let (option_and_then word_in t)) (slice_get_past tokens n past) in
    moves tokens n place place is (sym (ap (λ t. depth_behind place.depth (option_and_then sign_in t)) (slice_get_past tokens n past))) (omega arith)
    (unchosen (is_top tokens n) _ _ _ no_top refl) (unchosen (is_let (word_at tokens n)) _ _ _ no_let refl)

pub past_end : (tokens : List Token) (n more : ℕ) (place : Place) → length tokens ≤ n → IsPlaceOf tokens n place → IsPlaceOf tokens (n + more) place
past_end tokens n zero place past is = rw add-zero is
past_end tokens n (suc more) place past is =
    let next : n + suc more ≡ (n + more) + 1 = omega arith in
    rw next (stays tokens (n + more) place (omega (arith, past)) (past_end tokens n more place past is))

pub up_to : (tokens : List Token) (n at : ℕ) (place : Place) → n ≡ min at (length tokens) → IsPlaceOf tokens n place → IsPlaceOf tokens at place
up_to tokens n at place is there = elim (cases_lt (length tokens) at) [
  | inr within ↦ let same : n ≡ at = omega arith in subst (λ k. IsPlaceOf tokens k place) same there
  | inl past ↦
      let sum : n + (at - n) ≡ at = omega arith in
      subst (λ k. IsPlaceOf tokens k place) sum (past_end tokens n (at - n) place (omega arith) there)
]
