use Rattle.std.proofs.Common.{drop, map}
use Rattle.syntax.specs.Views.{expr_of}
use Rattle.syntax.specs.Working.Printing.{many_text, after_comma, expr_text}
use Rattle.syntax.proofs.Added.{Leads}
use Rattle.syntax.proofs.print_stmt.push_more_arguments.Given as goal

abbrev pub invariant-arguments : goal.invariant-arguments
invariant-arguments l = Leads l.initial.out l.out (many_text (after_comma expr_text) (map expr_of (drop l.argument-index l.arguments))) (many_text (after_comma expr_text) (map expr_of l.arguments))
