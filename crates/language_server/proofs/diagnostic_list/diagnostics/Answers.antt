use Rattle.std.proofs.Common.{◌∙◌, ap}
use Rattle.explanations.specs.Told.{said_by}
use Rattle.serde_json.specs.Written.{has_float}
use Rattle.language_server.proofs.DiagnosticFloats.{none_in_told}
use Rattle.language_server.proofs.diagnostic_list.diagnostics.Goals as goal

pub returns-clause-plain : goal.returns-clause-plain
returns-clause-plain c = ap has_float c.in_ok-found.ensures ∙ none_in_told _ _ (said_by c.in_ok-told.told)
