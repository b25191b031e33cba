use Rattle.lowering.proofs.Crossing.{program_whole, program_part}
use Rattle.lowering.proofs.laws.programs_are_shared.Goals as goal

pub returns : goal.returns
returns c = record { whole = program_whole; part = program_part }
