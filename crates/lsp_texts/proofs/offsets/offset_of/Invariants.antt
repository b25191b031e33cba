use Rattle.std.proofs.Common.{◌≡◌, ◌+◌, drop}
use Rattle.lsp_texts.specs.Positions.{bytes_to}
use Rattle.lsp_texts.proofs.offsets.offset_of.Given as goal

abbrev pub invariant-loop-at : goal.invariant-loop-at
invariant-loop-at l = bytes_to l.initial.lines l.initial.units l.text ≡ l.at + bytes_to l.lines l.units (drop l.at l.text)
