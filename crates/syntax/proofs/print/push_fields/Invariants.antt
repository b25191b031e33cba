use Rattle.std.proofs.Common.{drop, map}
use Rattle.syntax.specs.Views.{ident}
use Rattle.syntax.specs.Working.Printing.{many_text, field_text}
use Rattle.syntax.proofs.Added.{Leads}
use Rattle.syntax.proofs.print.push_fields.Given as goal

abbrev pub invariant-loop-field : goal.invariant-loop-field
invariant-loop-field l = Leads l.initial.out l.out (many_text field_text (map ident (drop l.field-index l.fields))) (many_text field_text (map ident l.fields))
