use Rattle.std.proofs.Common.{drop, map}
use Rattle.syntax.specs.Views.{decl_of}
use Rattle.syntax.specs.Working.Printing.{many_text, decl_text}
use Rattle.syntax.proofs.Added.{Leads}
use Rattle.syntax.proofs.print_decl.push_decls.Given as goal

abbrev pub invariant-decls : goal.invariant-decls
invariant-decls l = Leads l.initial.out l.out (many_text decl_text (map decl_of (drop l.decl-index l.decls))) (many_text decl_text (map decl_of l.decls))
