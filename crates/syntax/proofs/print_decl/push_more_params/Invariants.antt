use Rattle.std.proofs.Common.{drop, map}
use Rattle.syntax.specs.Views.{param_of}
use Rattle.syntax.specs.Working.Printing.{many_text, after_comma, param_text}
use Rattle.syntax.proofs.Added.{Leads}
use Rattle.syntax.proofs.print_decl.push_more_params.Given as goal

abbrev pub invariant-params : goal.invariant-params
invariant-params l = Leads l.initial.out l.out (many_text (after_comma param_text) (map param_of (drop l.param-index l.params))) (many_text (after_comma param_text) (map param_of l.params))
