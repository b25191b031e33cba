use Rattle.std.proofs.Common.{◌≡◌, ◌++◌, false, drop}
use Rattle.syntax.specs.Views.{stmts_of}
use Rattle.explanation_names.specs.Working.UsesFound.{all_declared, uses_in_stmts}
use Rattle.explanation_names.specs.Working.Values.{typed_seen}
use Rattle.explanation_names.proofs.Added.{Tells}
use Rattle.explanation_names.proofs.search.NameSearch.+stmts.Given as goal

abbrev pub invariant-in_stmts-loop-s : goal.invariant-in_stmts-loop-s
invariant-in_stmts-loop-s l = record {
  found : Tells l.self l.initial.found l.found (uses_in_stmts (typed_seen l.scope.items) (stmts_of (drop l.s-index l.stmts))) (uses_in_stmts (typed_seen l.initial.scope.items) (stmts_of l.stmts));
  scope : l.found.is_refused ≡ false →
      typed_seen l.scope.items ++ all_declared (stmts_of (drop l.s-index l.stmts)) ≡ typed_seen l.initial.scope.items ++ all_declared (stmts_of l.stmts);
}
