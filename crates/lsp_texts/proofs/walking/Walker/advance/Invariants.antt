use Rattle.std.proofs.Common.{◌≡◌, ◌≤◌, ◌*◌}
use Rattle.lsp_texts.specs.Positions.{position_of}
use Rattle.lsp_texts.proofs.walking.Walker.advance.Given as goal

abbrev pub invariant-loop-at : goal.invariant-loop-at
invariant-loop-at l = record {
  is : l.position ≡ position_of l.text l.at;
  few_lines : l.position.line ≤ l.at;
  few_units : l.position.unit ≤ 2 * l.at;
}
