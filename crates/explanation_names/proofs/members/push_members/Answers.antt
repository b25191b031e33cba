use Rattle.syntax.specs.Views.{member_of}
use Rattle.explanation_names.specs.Members.{name_as}
use Rattle.explanation_names.proofs.Added.{at_first, name_added, all_named}
use Rattle.explanation_names.proofs.members.push_members.Goals as goal

pub loop-member-init : goal.loop-member-init
loop-member-init c = at_first _ _

pub loop-member-preserved : goal.loop-member-preserved
loop-member-preserved c =
    name_added (name_as c.args.role) member_of c.args.members.now c.loop-member.member-index c.member-item.result _ c.loop-member-test.true c.member-item.is
    c.name_as.ensures c.loop-member.invariant c.push_some.ensures

pub returns : goal.returns
returns c = all_named (name_as c.args.role) member_of c.args.members.now c.loop-member.member-index c.loop-member-test.false c.loop-member.invariant
