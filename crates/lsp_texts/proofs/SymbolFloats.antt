-- The list has no numbers with a fraction, so its text is known.
use Rattle.std.proofs.Common.{◌≡◌, ℕ, List, [], ◌∷◌, false, map, refl}
use Rattle.serde_json.specs.View.{items_of}
use Rattle.serde_json.specs.Written.{items_have_float}
use Rattle.source.specs.declared.token.Token.{Token}
use Rattle.lsp_texts.specs.declared.names.Symbol.{Symbol}
use Rattle.lsp_texts.specs.DocumentSymbols.{symbol_data}

pub none_in_items : (text : List ℕ) (tokens : List Token) (found : List Symbol) → items_have_float (items_of (map (symbol_data text tokens) found)) ≡ false
none_in_items text tokens [] = refl
none_in_items text tokens (symbol ∷ found) = none_in_items text tokens found
