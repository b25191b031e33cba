use Rattle.std.proofs.Common.{drop, map}
use Rattle.syntax.specs.Views.{const_of}
use Rattle.syntax.specs.Working.Printing.{many_text, after_comma, const_text}
use Rattle.syntax.proofs.Added.{Leads}
use Rattle.syntax.proofs.print_thread.push_more_consts.Given as goal

abbrev pub invariant-consts : goal.invariant-consts
invariant-consts l = Leads l.initial.out l.out (many_text (after_comma const_text) (map const_of (drop l.value-index l.consts))) (many_text (after_comma const_text) (map const_of l.consts))
