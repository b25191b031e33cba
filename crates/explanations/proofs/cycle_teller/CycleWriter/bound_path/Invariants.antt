use Rattle.std.proofs.Common.{◌<◌, ℕ}
use Rattle.explanations.specs.Working.Tellers.{BeginsAt}
use Rattle.explanations.proofs.cycle_teller.CycleWriter.bound_path.Given as goal

-- no path so far is of the class and begins at the local
abbrev pub invariant-loop-path : goal.invariant-loop-path
invariant-loop-path l = (k : ℕ) → k < l.path → BeginsAt l.self.program.now l.self.section.now l.local l.class k → ⊥
