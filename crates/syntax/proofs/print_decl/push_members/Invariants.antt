use Rattle.std.proofs.Common.{drop, map}
use Rattle.syntax.specs.Views.{member_of}
use Rattle.syntax.specs.Working.Printing.{many_text, member_text}
use Rattle.syntax.proofs.Added.{Leads}
use Rattle.syntax.proofs.print_decl.push_members.Given as goal

abbrev pub invariant-members : goal.invariant-members
invariant-members l = Leads l.initial.out l.out (many_text member_text (map member_of (drop l.member-index l.members))) (many_text member_text (map member_of l.members))
