use Rattle.std.proofs.Common.{◌≡◌, ◌≤◌, drop, length}
use Rattle.runner.specs.Working.Asked.{asked_at, AreKept}
use Rattle.runner.proofs.asker.Asker.ask.Given as goal

abbrev pub invariant-loop-left : goal.invariant-loop-left
invariant-loop-left l =
    (l.left ≤ length l.list)
    × (l.pending.locks ≡ asked_at l.self.program.now l.self.section l.self.machine.now.locks l.self.machine.now.machine.locals (drop l.left l.list))
    × (l.initial.pending.room ≤ l.pending.room)
    × AreKept l.self l.pending.locks l.taken

abbrev pub decreases-loop-left : goal.decreases-loop-left
decreases-loop-left l = l.left
