use Rattle.std.proofs.Common.{◌≡◌, drop}
use Rattle.explanation_faults.specs.Working.LimitsFound.{some_starts}
use Rattle.explanation_names.specs.Working.Values.{idents}
use Rattle.explanation_faults.proofs.limits_passed.some_starts.Given as goal

abbrev pub invariant-loop-name : goal.invariant-loop-name
invariant-loop-name l = some_starts l.at (idents (drop l.name-index l.names)) ≡ some_starts l.at (idents l.names)
