use Rattle.std.proofs.Common.{◌≡◌, map, take}
use Rattle.report_runs.specs.Working.Kinds.{call_place}
use Rattle.report_runs.proofs.run_kind.order_of.Given as goal

-- the calls of the entries so far
abbrev pub invariant-loop-position : goal.invariant-loop-position
invariant-loop-position l = l.order.items ≡ map call_place (take l.position l.history.commits)
