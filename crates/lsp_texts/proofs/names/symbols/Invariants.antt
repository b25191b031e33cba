use Rattle.std.proofs.Common.{◌≡◌, ◌≤◌}
use Rattle.lsp_texts.specs.Names.{depth_at, symbols_in}
use Rattle.lsp_texts.proofs.names.symbols.Given as goal

abbrev pub invariant-loop-at : goal.invariant-loop-at
invariant-loop-at l = record {
  found : l.found.items ≡ symbols_in l.tokens l.at;
  depth : l.depth ≡ depth_at l.tokens l.at;
  few : l.depth ≤ l.at;
}
