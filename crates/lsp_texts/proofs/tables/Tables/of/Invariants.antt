use Rattle.lsp_texts.specs.Working.Places.{IsPlaceOf}
use Rattle.lsp_texts.specs.Working.Tables.{AreTablesIn}
use Rattle.lsp_texts.proofs.tables.Tables.of.Given as goal

abbrev pub invariant-loop-at : goal.invariant-loop-at
invariant-loop-at l = record {
  place : IsPlaceOf l.tokens l.at l.place;
  tables : AreTablesIn l.tokens l.at l.tables;
}
