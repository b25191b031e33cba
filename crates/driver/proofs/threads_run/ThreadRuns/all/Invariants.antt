use Rattle.driver.specs.Working.ThreadRunning.{HasSeenRuns}
use Rattle.driver.proofs.threads_run.ThreadRuns.all.Given as goal

-- the given number of runs was seen
abbrev pub invariant-loop-before : goal.invariant-loop-before
invariant-loop-before g l = HasSeenRuns l.self.program.now l.before l.seen
