use Rattle.std.proofs.Common.{◌≡◌, ◌<◌, ℕ}
use Rattle.runner.specs.Working.Opens.{IsRunning, moved_by}
use Rattle.runner.proofs.states.Running.run.Given as goal

abbrev pub invariant-loop-done : goal.invariant-loop-done
invariant-loop-done l =
    (l.open ≡ moved_by l.done l.initial.open)
    × ((k : ℕ) → k < l.done → IsRunning (moved_by k l.initial.open))
    × IsRunning l.open
