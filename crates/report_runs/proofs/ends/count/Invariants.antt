use Rattle.std.proofs.Common.{◌≡◌, map, take}
use Rattle.outcomes.specs.Ends.{told_of}
use Rattle.report_runs.specs.Outcomes.{looked_at}
use Rattle.report_runs.proofs.ends.count.Given as goal

abbrev pub invariant-loop-end : goal.invariant-loop-end
invariant-loop-end l = l.count ≡ looked_at (map told_of (take l.end-index l.ends))
