-- The declaration of a name, with one more token read.
use Rattle.std.proofs.Common.{◌≡◌, ◌∙◌, ℕ, suc, ◌+◌, List, [], ◌∷◌, ◌++◌, Option, refl, sym, ap, add-one}
use Rattle.source.specs.declared.token.Token.{Token}
use Rattle.lsp_texts.specs.Declarations.{declaration_of, declarations_in}

pub none_in : (tokens : List Token) → [] ≡ declarations_in tokens 0
unfolding declarations_in
none_in tokens = refl

declarations_step : (tokens : List Token) (n : ℕ) →
    declarations_in tokens (suc n) ≡ declarations_in tokens n ++ declaration_of tokens (declarations_in tokens n) n ∷ []
unfolding declarations_in
declarations_step tokens n = refl

pub one_more : (tokens : List Token) (n : ℕ) (old new : List (Option ℕ)) (found : Option ℕ) → old ≡ declarations_in tokens n →
    found ≡ declaration_of tokens old n → new ≡ old ++ found ∷ [] → new ≡ declarations_in tokens (n + 1)
one_more tokens n old new found were is pushed =
    pushed ∙ ap (λ f. old ++ f ∷ []) is ∙ ap (λ l. l ++ declaration_of tokens l n ∷ []) were ∙ sym (declarations_step tokens n)
    ∙ ap (declarations_in tokens) (sym (add-one n))
