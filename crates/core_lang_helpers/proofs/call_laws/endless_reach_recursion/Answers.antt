use Rattle.core_lang_helpers.proofs.Endless.{circle_endless, endless_circle}
use Rattle.core_lang_helpers.proofs.call_laws.endless_reach_recursion.Goals as goal

pub returns : goal.returns
returns c = λ helpers f. (endless_circle helpers f, circle_endless helpers f)
