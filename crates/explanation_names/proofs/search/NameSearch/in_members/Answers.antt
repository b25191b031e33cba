use Rattle.std.proofs.Common.{refl, map}
use Rattle.std.specs.List.{flat_map}
use Rattle.syntax.specs.Views.{ident, member_of}
use Rattle.explanation_names.specs.Working.UsesFound.{uses_of_member}
use Rattle.explanation_names.specs.Working.Values.{locals_at}
use Rattle.explanation_names.proofs.Added.{tells_first, item_said, all_said}
use Rattle.explanation_names.proofs.search.NameSearch.in_members.Goals as goal

pub loop-member-init : goal.loop-member-init
loop-member-init c = tells_first _ _ _

pub loop-member-preserved : goal.loop-member-preserved
loop-member-preserved c =
    item_said (λ xs. flat_map (uses_of_member (locals_at c.args.self.now) (ident c.args.structure.now)) (map member_of xs)) c.args.members.now c.loop-member.member-index c.member-item.result c.loop-member-test.true c.member-item.is refl
    c.loop-member.invariant c.in_member.ensures

pub returns : goal.returns
returns c =
    all_said (λ xs. flat_map (uses_of_member (locals_at c.args.self.now) (ident c.args.structure.now)) (map member_of xs)) c.args.members.now c.loop-member.member-index c.loop-member-test.false refl c.loop-member.invariant
