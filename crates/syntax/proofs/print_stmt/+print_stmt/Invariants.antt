use Rattle.std.proofs.Common.{drop}
use Rattle.syntax.specs.Views.{stmts_of}
use Rattle.syntax.specs.Working.Printing.{stmts_text}
use Rattle.syntax.proofs.Added.{Leads}
use Rattle.syntax.proofs.print_stmt.+print_stmt.Given as goal

abbrev pub invariant-push_stmts-stmts : goal.invariant-push_stmts-stmts
invariant-push_stmts-stmts l = Leads l.initial.out l.out (stmts_text l.depth (stmts_of (drop l.s-index l.stmts))) (stmts_text l.depth (stmts_of l.stmts))
