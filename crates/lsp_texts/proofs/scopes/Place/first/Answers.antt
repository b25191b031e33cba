use Rattle.lsp_texts.proofs.PlaceLemmas.{begins}
use Rattle.lsp_texts.proofs.scopes.Place.first.Goals as goal

pub returns : goal.returns
returns c = begins
