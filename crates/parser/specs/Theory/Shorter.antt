-- Readers of names, constants and parameters take a token at least.
use Rattle.std.proofs.Common.{◌≡◌, ℕ, ◌<◌, length, Option, Some, Ok, Result, ◌∷◌, List, [], Bool, true, false, cond}
use Rattle.std.proofs.Common.{None, refl, subst, arith}
use Rattle.std.specs.Prelude.{IfSome}
use Rattle.std.proofs.lemmas.List.{length-map}
use Rattle.source.specs.declared.token.Sign.{Sign}
use Rattle.source.specs.declared.token.Sign.TheVariants.{Comma, Dot}
use Rattle.source.specs.declared.token.Token.{Token}
use Rattle.source.specs.Tokens.{Tok, seen_token, seen}
use Rattle.syntax.specs.Grammar.{IsAfter, IsName, IsConst, IsParam, IsClassName}
use Rattle.parser.specs.declared.stop.Stop.{Stop}
use Rattle.parser.specs.Working.Reading.{Reader, next_after, skip_at, is_sign, name_at}
use Rattle.parser.specs.Working.Parts.{const_at, param_at, class_at}
use Rattle.parser.specs.Theory.Readers.{OnValue, Shortens}
use Rattle.parser.specs.Theory.Many.{NextShortens}
use Rattle.parser.specs.Theory.Laws.{law_shortens, next_shortens}
use Rattle.parser.specs.Theory.Law.{name_law}
use Rattle.parser.specs.Theory.Joined.{after_each_next}
use Rattle.parser.specs.Theory.PartLaws.{const_law, param_law, class_law}

pub name_shortens : Shortens name_at
name_shortens = law_shortens 0 IsName name_at 0 0 (name_law 0 0)

pub const_shortens : (room : ℕ) → Shortens (const_at room)
const_shortens room = law_shortens room IsConst (const_at room) 0 0 (const_law room room 0 (omega arith))

pub param_shortens : Shortens param_at
param_shortens = law_shortens 0 IsParam param_at 0 0 (param_law 0 0)

pub class_shortens : Shortens class_at
class_shortens = law_shortens 0 IsClassName class_at 0 0 (class_law 0 0)

-- ---- turns

pub next_name_shortens : NextShortens (next_after Dot name_at)
next_name_shortens = next_shortens 0 (IsAfter Dot IsName) (next_after Dot name_at) 0
    (after_each_next 0 IsName name_at 0 (name_law 0 0) Dot refl (λ o. o))

pub next_const_shortens : (room : ℕ) → NextShortens (next_after Comma (const_at room))
next_const_shortens room = next_shortens room (IsAfter Comma IsConst) (next_after Comma (const_at room)) 0
    (after_each_next room IsConst (const_at room) 0 (const_law room room 0 (omega arith)) Comma refl (λ o. o))

pub next_param_shortens : NextShortens (next_after Comma param_at)
next_param_shortens = next_shortens 0 (IsAfter Comma IsParam) (next_after Comma param_at) 0
    (after_each_next 0 IsParam param_at 0 (param_law 0 0) Comma refl (λ o. o))

pub next_class_shortens : NextShortens (next_after Comma class_at)
next_class_shortens = next_shortens 0 (IsAfter Comma IsClassName) (next_after Comma class_at) 0
    (after_each_next 0 IsClassName class_at 0 (class_law 0 0) Comma refl (λ o. o))

-- a sign and an item take a token at least
skip_less : (b : Bool) (t : Tok) (ts : List Tok) → IfSome (cond b (Some ts) None) (λ us. length us < length (t ∷ ts))
skip_less true t ts = omega arith
skip_less false t ts = tt

skip_found : (s : Sign) (ts : List Tok) → IfSome (skip_at s ts) (λ us. length us < length ts)
unfolding skip_at
skip_found s [] = tt
skip_found s (t ∷ ts) = skip_less (is_sign s t.kind) t ts

pub each_less : {A : Type 0} (s : Sign) (f : Reader A) → Shortens f → (ts after rest : List Token) (x : A) →
    skip_at s (seen ts) ≡ Some (seen after) → f (seen after) ≡ Ok (x, seen rest) → length rest < length ts
each_less s f shorter ts after rest x found read =
    let less = subst (λ (o : Option (List Tok)). IfSome o (λ us. length us < length (seen ts))) found
    (skip_found s (seen ts)) in
    let more = subst (λ (r : Result (_ × List Tok) Stop). OnValue r (λ x. length x.1 < length (seen after))) read
    (shorter (seen after)) in
    omega (arith, less, more, length-map ts seen_token, length-map rest seen_token)
