use Rattle.std.proofs.Common.{◌≡◌, map, take}
use Rattle.serde_json.specs.View.{view}
use Rattle.lsp_texts.specs.Renames.{edit_data}
use Rattle.lsp_texts.proofs.renaming.Renaming.edits.Given as goal

abbrev pub invariant-loop-at : goal.invariant-loop-at
invariant-loop-at l = record {
  text : l.walker.text.now ≡ l.self.document.text.now;
  told : map view l.values.items ≡ map (edit_data l.self.name.now l.self.document.text.now l.self.document.tokens.now) (take l.at-index l.found);
}
