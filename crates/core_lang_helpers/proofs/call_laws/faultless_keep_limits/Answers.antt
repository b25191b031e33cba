use Rattle.core_lang_helpers.proofs.Written.{keeps_limits}
use Rattle.core_lang_helpers.proofs.call_laws.faultless_keep_limits.Goals as goal

pub returns : goal.returns
returns c = λ program graph fits none within typed scoped. keeps_limits program graph fits typed none within scoped
