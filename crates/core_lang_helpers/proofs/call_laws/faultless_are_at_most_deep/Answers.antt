use Rattle.core_lang_helpers.proofs.Faultless.{at_most_deep}
use Rattle.core_lang_helpers.proofs.call_laws.faultless_are_at_most_deep.Goals as goal

pub returns : goal.returns
returns c = λ graph none right f lt. at_most_deep graph none right f lt
