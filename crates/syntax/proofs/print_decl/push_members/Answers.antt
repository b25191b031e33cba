use Rattle.std.proofs.Common.{refl, map}
use Rattle.syntax.specs.Views.{member_of}
use Rattle.syntax.specs.Working.Printing.{many_text, member_text}
use Rattle.syntax.proofs.Added.{at_first, item_added, all_added}
use Rattle.syntax.proofs.print_decl.push_members.Goals as goal

pub members-init : goal.members-init
members-init c = at_first _ _

pub members-preserved : goal.members-preserved
members-preserved c =
    item_added (λ l. many_text member_text (map member_of l)) c.args.members.now c.members.member-index c.member-item.result c.members-test.true c.member-item.is refl c.members.invariant (c.push_member.ensures)

pub returns : goal.returns
returns c =
    all_added (λ l. many_text member_text (map member_of l)) c.args.members.now c.members.member-index c.members-test.false refl c.members.invariant
