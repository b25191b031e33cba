use Rattle.std.proofs.Common.{◌≡◌, ◌++◌, string_bytes}
use Rattle.report_runs.specs.Simulation.{thread_texts}
use Rattle.report_runs.proofs.simulation.push_threads.Given as goal

abbrev pub invariant-loop-thread : goal.invariant-loop-thread
invariant-loop-thread l = string_bytes l.out ≡ string_bytes l.initial.out ++ thread_texts l.world.plan l.world.world l.thread
