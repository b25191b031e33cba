use Rattle.std.proofs.Common.{◌≡◌, drop}
use Rattle.resolution.specs.Working.Findings.{found_in}
use Rattle.types_bodies.specs.Working.Checkers.{scope}
use Rattle.types_bodies.specs.Working.Calls.{each_blamed}
use Rattle.types_bodies.proofs.call.report_each.Given as goal

abbrev pub invariant-loop-e : goal.invariant-loop-e
invariant-loop-e l = record {
  faults : found_in l.firsts (each_blamed (scope l.checker) (drop l.e-index l.arguments)) ≡ found_in l.fn.firsts (each_blamed (scope l.checker) l.arguments);
}
