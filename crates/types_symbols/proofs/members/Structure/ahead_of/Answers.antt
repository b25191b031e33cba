use Rattle.std.proofs.Common.{◌≡◌, List, Some, None, take, subst}
use Rattle.std.specs.Slice.{IsItemAt}
use Rattle.syntax.specs.declared.tree.Struct as rust_struct
use Rattle.types_symbols.specs.declared.members.MemberCounts.{MemberCounts}
use Rattle.types_symbols.specs.Working.Counted.{member_counts_from, no_members}
use Rattle.types_symbols.specs.Working.Views.{members_seen}
use Rattle.types_symbols.proofs.Ahead.{ahead_here, ahead_past}
use Rattle.types_symbols.proofs.members.Structure.ahead_of.Goals as goal

pub returns-in-Some : goal.returns-in-Some
returns-in-Some c =
    let s = c.self.inside in
    let b = c.in-Some.counts in
    let here = subst (λ (cs : List MemberCounts). IsItemAt cs c.args.place (Some b)) c.deref.ensures.value c.in-Some.ensures.lookup in
    subst (λ (x : rust_struct.Struct). b.now ≡ member_counts_from no_members (take c.args.place (members_seen x))) c.self.view_is
    (ahead_here (member_counts_from no_members) (members_seen s.item.now) s.ahead.items s.all c.args.place c.self.invariant.1 b here)

pub returns-in-None : goal.returns-in-None
returns-in-None c =
    let s = c.self.inside in
    let past = subst (λ (cs : List MemberCounts). IsItemAt cs c.args.place None) c.deref.ensures.value c.in-None.ensures.lookup in
    subst (λ (x : rust_struct.Struct). s.all ≡ member_counts_from no_members (take c.args.place (members_seen x))) c.self.view_is
    (ahead_past (member_counts_from no_members) (members_seen s.item.now) s.ahead.items s.all c.args.place c.self.invariant.1 past)
