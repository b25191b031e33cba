use Rattle.std.proofs.Common.{◌≡◌, drop}
use Rattle.resolution.specs.Working.Building.{joined}
use Rattle.resolution.specs.Working.Findings.{found_in}
use Rattle.types_bodies.specs.Working.Checkers.{scope}
use Rattle.types_bodies.specs.Working.Calls.{values_seen, values_of, values_blamed}
use Rattle.types_bodies.proofs.call.values_for.Given as goal

abbrev pub invariant-loop-i : goal.invariant-loop-i
invariant-loop-i l = record {
  value : joined (values_seen l.values) (values_of (scope l.checker) (drop l.i l.params) (drop l.i l.arguments)) ≡ values_of (scope l.checker) l.params l.arguments;
  faults : found_in l.firsts (values_blamed (scope l.checker) (drop l.i l.params) (drop l.i l.arguments)) ≡ found_in l.fn.firsts (values_blamed (scope l.checker) l.params l.arguments);
}
