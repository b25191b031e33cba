use Rattle.std.proofs.Common.{◌≡◌, map, take}
use Rattle.serde_json.specs.View.{view}
use Rattle.lsp_texts.specs.DocumentSymbols.{symbol_data}
use Rattle.lsp_texts.proofs.listing.symbol_values.Given as goal

abbrev pub invariant-loop-symbol : goal.invariant-loop-symbol
invariant-loop-symbol l = record {
  text : l.walker.text.now ≡ l.source.text.now;
  told : map view l.values.items ≡ map (symbol_data l.source.text.now l.source.tokens.now) (take l.symbol-index l.found);
}
