use Rattle.std.proofs.Common.{◌≡◌, map, take}
use Rattle.serde_json.specs.View.{view}
use Rattle.lsp_texts.specs.Links.{location_data}
use Rattle.lsp_texts.proofs.linked.Linked.locations.Given as goal

abbrev pub invariant-loop-at : goal.invariant-loop-at
invariant-loop-at l = record {
  text : l.walker.text.now ≡ l.self.text.now;
  told : map view l.values.items ≡ map (location_data l.self.uri.now l.self.text.now l.self.tokens.now) (take l.at-index l.found);
}
