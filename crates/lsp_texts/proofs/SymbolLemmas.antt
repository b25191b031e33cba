-- One more symbol.
use Rattle.std.proofs.Common.{◌≡◌, ◌∙◌, ℕ, suc, ◌+◌, List, [], ◌++◌, Option, refl, sym, ap, add-one}
use Rattle.std.specs.Option.{option_to_list}
use Rattle.source.specs.declared.token.Token.{Token}
use Rattle.lsp_texts.specs.Names.{depth_at, depth_behind, sign_at, symbol_at, symbols_in}
use Rattle.lsp_texts.specs.declared.names.Symbol.{Symbol}

pub none_in : (tokens : List Token) → [] ≡ symbols_in tokens 0
unfolding symbols_in
none_in tokens = refl

pub not_deep : (tokens : List Token) → 0 ≡ depth_at tokens 0
unfolding depth_at
not_deep tokens = refl

depth_step : (tokens : List Token) (n : ℕ) → depth_at tokens (suc n) ≡ depth_behind (depth_at tokens n) (sign_at tokens n)
unfolding depth_at
depth_step tokens n = refl

symbols_step : (tokens : List Token) (n : ℕ) → symbols_in tokens (suc n) ≡ symbols_in tokens n ++ option_to_list (symbol_at tokens (depth_at tokens n) n)
unfolding symbols_in
symbols_step tokens n = refl

pub deeper : (tokens : List Token) (n old new : ℕ) → old ≡ depth_at tokens n → new ≡ depth_behind old (sign_at tokens n) → new ≡ depth_at tokens (n + 1)
deeper tokens n old new was is =
    is ∙ ap (λ d. depth_behind d (sign_at tokens n)) was ∙ sym (depth_step tokens n) ∙ ap (depth_at tokens) (sym (add-one n))

pub one_more : (tokens : List Token) (n depth : ℕ) (old new : List Symbol) (found : Option Symbol) → old ≡ symbols_in tokens n → depth ≡ depth_at tokens n →
    found ≡ symbol_at tokens depth n → new ≡ old ++ option_to_list found → new ≡ symbols_in tokens (n + 1)
one_more tokens n depth old new found were deep is pushed =
    pushed ∙ ap (λ l. l ++ option_to_list found) were ∙ ap (λ f. symbols_in tokens n ++ option_to_list f) (is ∙ ap (λ d. symbol_at tokens d n) deep)
    ∙ sym (symbols_step tokens n) ∙ ap (symbols_in tokens) (sym (add-one n))
