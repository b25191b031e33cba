use Rattle.std.proofs.Common.{take}
use Rattle.input_files.specs.Turns.{steps_of}
use Rattle.report_runs.specs.Working.Tellers.{Tells}
use Rattle.report_runs.proofs.step_teller.StepWriter.take_turns.Given as goal

abbrev pub invariant-loop-turn : goal.invariant-loop-turn
invariant-loop-turn l = Tells l.self (steps_of (take l.turn-index l.turns)) l.initial.world l.world l.initial.out l.out
