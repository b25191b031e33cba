use Rattle.std.proofs.Common.{◌≡◌, drop}
use Rattle.std.specs.Prelude.{map}
use Rattle.syntax.specs.Views.{ident}
use Rattle.resolution.specs.Expressions.{walked}
use Rattle.resolution.specs.Working.Findings.{found_in}
use Rattle.resolution.specs.Working.FaultLists.{walk_faults}
use Rattle.types_bodies.specs.Working.Checkers.{scope}
use Rattle.types_bodies.specs.Working.Walks.{walk_of}
use Rattle.types_bodies.proofs.checker.Checker.walked.Given as goal

abbrev pub invariant-loop-f : goal.invariant-loop-f
invariant-loop-f l = record {
  value : walked (scope l.self).decls (walk_of l.reached) (map ident (drop l.f-index l.fields)) ≡ walked (scope l.self).decls (walk_of l.fn.w) (map ident l.fields);
  faults : found_in l.firsts (walk_faults (scope l.self).decls l.start (walk_of l.reached) (map ident (drop l.f-index l.fields))) ≡ found_in l.fn.firsts (walk_faults (scope l.self).decls l.start (walk_of l.fn.w) (map ident l.fields));
}
