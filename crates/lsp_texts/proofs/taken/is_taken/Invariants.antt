use Rattle.std.proofs.Common.{◌≡◌}
use Rattle.std.specs.Option.{is_some}
use Rattle.lsp_texts.specs.Declarations.{first}
use Rattle.lsp_texts.specs.Taken.{takes}
use Rattle.lsp_texts.specs.Working.Places.{IsPlaceOf}
use Rattle.lsp_texts.proofs.taken.is_taken.Given as goal

abbrev pub invariant-loop-at : goal.invariant-loop-at
invariant-loop-at l = record {
  taken : l.is_taken ≡ is_some (first (takes l.tokens l.declared l.text) l.at);
  place : IsPlaceOf l.tokens l.at l.place;
}
