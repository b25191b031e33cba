use Rattle.std.proofs.Common.{◌≡◌, drop, map}
use Rattle.outcomes.specs.Ends.{told_of}
use Rattle.report_runs.specs.Breaches.{breach_in}
use Rattle.report_runs.proofs.expected_ends.ExpectedEnds.breach.Given as goal

-- the ends so far meet the expectation
abbrev pub invariant-loop-end : goal.invariant-loop-end
invariant-loop-end l =
    breach_in l.self.ends.now.asked.now.cells l.self.comparison.now (map told_of (drop l.end-index l.self.ends.now.ends.now))
    ≡ breach_in l.self.ends.now.asked.now.cells l.self.comparison.now (map told_of l.self.ends.now.ends.now)
