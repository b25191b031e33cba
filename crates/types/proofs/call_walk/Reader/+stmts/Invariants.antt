use Rattle.std.proofs.Common.{◌≡◌, ◌+◌, ◌++◌, drop}
use Rattle.syntax.specs.Views.{stmts_of}
use Rattle.resolution.specs.Statements.{after_all}
use Rattle.resolution.specs.CallGraphs.{stmts_calls, stmts_points}
use Rattle.types.specs.Working.Walks.{scope_at}
use Rattle.types.proofs.call_walk.Reader.+stmts.Given as goal

abbrev pub invariant-stmts-loop-s : goal.invariant-stmts-loop-s
invariant-stmts-loop-s l = record {
  scope : after_all (scope_at l.self l.walk.locals) (stmts_of (drop l.s-index l.stmts)) ≡ after_all (scope_at l.fn.self l.fn.walk.locals) (stmts_of l.stmts);
  calls : l.walk.calls.items ++ stmts_calls (scope_at l.self l.walk.locals) (stmts_of (drop l.s-index l.stmts)) ≡ l.fn.walk.calls.items ++ stmts_calls (scope_at l.fn.self l.fn.walk.locals) (stmts_of l.stmts);
  points : l.walk.points + stmts_points (stmts_of (drop l.s-index l.stmts)) ≡ l.fn.walk.points + stmts_points (stmts_of l.stmts);
}
