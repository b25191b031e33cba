use Rattle.std.proofs.Common.{replicate}
use Rattle.report_runs.specs.Working.Tellers.{Tells}
use Rattle.report_runs.proofs.step_teller.StepWriter.take.Given as goal

abbrev pub invariant-loop : goal.invariant-loop
invariant-loop l = Tells l.self (replicate l.counter l.turn.thread) l.initial.world l.world l.initial.out l.out
