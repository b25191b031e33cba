use Rattle.std.proofs.Common.{sym, ap, ◌∙◌}
use Rattle.types_symbols.specs.Working.Views.{decls_of, members_seen}
use Rattle.types.specs.Working.Grown.{shaped}
use Rattle.types.proofs.Lost.{members_lost}
use Rattle.types.proofs.grown.Builder.add_members.Goals as goal

pub returns-then-not-branch : goal.returns-then-not-branch
returns-then-not-branch c =
    members_lost (decls_of c.args.self.now.symbols.now) c.args.members.now c.loop-m.m-index c.m-item.result c.loop-m-test.true c.m-item.is c.args.here.now.number c.args.here.now.place (members_seen c.args.here.now.table.now) _ _
    c.loop-m.invariant.value (ap (λ b. shaped b c.add_member.new.builder) (sym c.if-not-branch.true) ∙ c.in_ok-add_member.ensures)
