use Rattle.core_lang.proofs.Crossing.{typed_whole, typed_part}
use Rattle.core_lang.proofs.laws.programs_are_shared.Goals as goal

pub returns : goal.returns
returns c = record { whole = typed_whole; part = typed_part }
