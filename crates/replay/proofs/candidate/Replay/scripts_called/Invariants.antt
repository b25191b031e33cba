use Rattle.std.proofs.Common.{◌≡◌, ◌<◌, ℕ, length}
use Rattle.replay.specs.Readers.{script_of}
use Rattle.replay.specs.Working.Reading.{called_at}
use Rattle.replay.proofs.candidate.Replay.scripts_called.Given as goal

-- the seats of the threads so far are full
abbrev pub invariant-loop-thread : goal.invariant-loop-thread
invariant-loop-thread l = (t : ℕ) → t < l.thread → called_at l.at.seats t ≡ length (script_of l.self.program.now t)
