use Rattle.std.proofs.Common.{drop, map}
use Rattle.syntax.specs.Views.{class_name_of}
use Rattle.syntax.specs.Working.Printing.{many_text, after_comma, class_name_text}
use Rattle.syntax.proofs.Added.{Leads}
use Rattle.syntax.proofs.print_decl.push_more_classes.Given as goal

abbrev pub invariant-classes : goal.invariant-classes
invariant-classes l = Leads l.initial.out l.out (many_text (after_comma class_name_text) (map class_name_of (drop l.class-index l.classes))) (many_text (after_comma class_name_text) (map class_name_of l.classes))
