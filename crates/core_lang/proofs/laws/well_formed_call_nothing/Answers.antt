use Rattle.core_lang.specs.Theory.Checked.{checked, calls_nothing}
use Rattle.core_lang.proofs.laws.well_formed_call_nothing.Goals as goal

pub returns : goal.returns
returns c = record { checked = checked; no_calls = calls_nothing }
