-- The references to a name, with one more token read.
use Rattle.std.proofs.Common.{◌≡◌, ◌∙◌, ℕ, suc, ◌+◌, Bool, List, [], ◌∷◌, ◌++◌, refl, sym, ap, add-one}
use Rattle.std.specs.Prelude.{if◌then◌else◌}
use Rattle.source.specs.declared.token.Token.{Token}
use Rattle.lsp_texts.specs.Links.{is_reference, references_in}

pub none_in : (tokens : List Token) (itself : Bool) (declared : ℕ) → [] ≡ references_in tokens itself declared 0
unfolding references_in
none_in tokens itself declared = refl

references_step : (tokens : List Token) (itself : Bool) (declared n : ℕ) →
    references_in tokens itself declared (suc n) ≡ references_in tokens itself declared n ++ (if is_reference tokens itself declared n then n ∷ [] else [])
unfolding references_in
references_step tokens itself declared n = refl

pub one_more : (tokens : List Token) (itself : Bool) (declared n : ℕ) (old new : List ℕ) (is : Bool) → old ≡ references_in tokens itself declared n →
    is ≡ is_reference tokens itself declared n → new ≡ old ++ (if is then n ∷ [] else []) → new ≡ references_in tokens itself declared (n + 1)
one_more tokens itself declared n old new is were found grown =
    grown ∙ ap (λ b. old ++ (if b then n ∷ [] else [])) found ∙ ap (λ l. l ++ (if is_reference tokens itself declared n then n ∷ [] else [])) were
    ∙ sym (references_step tokens itself declared n) ∙ ap (references_in tokens itself declared) (sym (add-one n))
