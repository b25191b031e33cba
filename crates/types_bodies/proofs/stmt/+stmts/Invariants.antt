use Rattle.std.proofs.Common.{◌≡◌, drop}
use Rattle.std.specs.Prelude.{option_map}
use Rattle.syntax.specs.Views.{stmts_of}
use Rattle.resolution.specs.Working.TypedStatements.{typed_body}
use Rattle.resolution.specs.Statements.{after_all}
use Rattle.resolution.specs.Working.Findings.{found_in}
use Rattle.resolution.specs.Working.FaultLists.{stmts_faults}
use Rattle.types_bodies.specs.Working.Checkers.{scope}
use Rattle.types_bodies.specs.Working.Targets.{row_of}
use Rattle.types_bodies.proofs.Blocks.{body_joined}
use Rattle.types_bodies.proofs.stmt.+stmts.Given as goal

abbrev pub invariant-check_body-loop-s : goal.invariant-check_body-loop-s
invariant-check_body-loop-s l = record {
  value : body_joined (option_map row_of l.body) (typed_body (scope l.checker) (stmts_of (drop l.s-index l.stmts))) ≡ typed_body (scope l.fn.checker) (stmts_of l.stmts);
  faults : found_in l.firsts (stmts_faults (scope l.checker) (stmts_of (drop l.s-index l.stmts))) ≡ found_in l.fn.firsts (stmts_faults (scope l.fn.checker) (stmts_of l.stmts));
  scope : after_all (scope l.checker) (stmts_of (drop l.s-index l.stmts)) ≡ after_all (scope l.fn.checker) (stmts_of l.stmts);
}
