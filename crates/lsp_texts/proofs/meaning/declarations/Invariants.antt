use Rattle.std.proofs.Common.{◌≡◌}
use Rattle.lsp_texts.specs.Declarations.{declarations_in}
use Rattle.lsp_texts.specs.Working.Places.{IsPlaceOf}
use Rattle.lsp_texts.proofs.meaning.declarations.Given as goal

abbrev pub invariant-loop-at : goal.invariant-loop-at
invariant-loop-at l = record {
  found : l.found.items ≡ declarations_in l.tokens l.at;
  place : IsPlaceOf l.tokens l.at l.place;
}
