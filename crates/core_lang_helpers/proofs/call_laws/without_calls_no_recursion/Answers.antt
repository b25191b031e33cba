use Rattle.core_lang_helpers.proofs.Faultless.{no_recursion}
use Rattle.core_lang_helpers.proofs.call_laws.without_calls_no_recursion.Goals as goal

pub returns : goal.returns
returns c = λ graph none p h. no_recursion graph none p h
