use Rattle.std.proofs.Common.{◌≡◌, map, take}
use Rattle.report_runs.specs.Working.Kinds.{held_of}
use Rattle.report_runs.proofs.run_kind.end_of.Given as goal

-- the values of the cells so far
abbrev pub invariant-loop-value : goal.invariant-loop-value
invariant-loop-value l = l.end.items ≡ map held_of (take l.value-index l.values)
