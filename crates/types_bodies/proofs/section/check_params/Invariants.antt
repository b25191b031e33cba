use Rattle.std.proofs.Common.{◌≡◌, drop}
use Rattle.std.specs.Prelude.{map}
use Rattle.syntax.specs.Views.{param_of}
use Rattle.resolution.specs.Scopes.{entered}
use Rattle.resolution.specs.Working.Findings.{found_in}
use Rattle.resolution.specs.Working.FaultLists.{param_faults}
use Rattle.types_bodies.specs.Working.Checkers.{scope}
use Rattle.types_bodies.proofs.section.check_params.Given as goal

abbrev pub invariant-loop-place : goal.invariant-loop-place
invariant-loop-place l = record {
  faults : found_in l.firsts (param_faults (scope l.checker) l.place (map param_of (drop l.place l.params))) ≡ found_in l.fn.firsts (param_faults (scope l.fn.checker) 0 (map param_of l.params));
  scope : entered (scope l.checker) (map param_of (drop l.place l.params)) ≡ entered (scope l.fn.checker) (map param_of l.params);
}
