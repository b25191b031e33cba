use Rattle.core_lang_helpers.proofs.Faultless.{bring_few}
use Rattle.core_lang_helpers.proofs.call_laws.faultless_bring_few.Goals as goal

pub returns : goal.returns
returns c = λ graph none s section is. bring_few graph none s section is
