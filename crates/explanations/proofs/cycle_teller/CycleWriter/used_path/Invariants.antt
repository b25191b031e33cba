use Rattle.std.proofs.Common.{◌≡◌, ◌<◌, ℕ, true}
use Rattle.locks.specs.Sets.{has}
use Rattle.explanations.specs.Working.Tellers.{HasClass}
use Rattle.explanations.proofs.cycle_teller.CycleWriter.used_path.Given as goal

-- no path so far is of the class and used at the point
abbrev pub invariant-loop-number : goal.invariant-loop-number
invariant-loop-number l =
    (k : ℕ) → k < l.number → HasClass l.self.program.now l.self.section.now l.class k → has l.used k ≡ true → ⊥
