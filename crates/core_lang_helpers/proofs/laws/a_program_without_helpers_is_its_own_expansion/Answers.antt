use Rattle.core_lang_helpers.proofs.Alone.{own_expansion}
use Rattle.core_lang_helpers.proofs.laws.a_program_without_helpers_is_its_own_expansion.Goals as goal

pub returns : goal.returns
returns c = own_expansion
