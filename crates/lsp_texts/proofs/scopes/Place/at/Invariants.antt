use Rattle.lsp_texts.specs.Working.Places.{IsPlaceOf}
use Rattle.lsp_texts.proofs.scopes.Place.at.Given as goal

abbrev pub invariant-loop-before : goal.invariant-loop-before
invariant-loop-before l = IsPlaceOf l.tokens l.before l.place
