use Rattle.std.proofs.Common.{◌≡◌, List, Some, None, subst}
use Rattle.std.specs.Slice.{IsItemAt}
use Rattle.syntax.specs.declared.tree.Member as rust
use Rattle.syntax.specs.declared.tree.Struct as rust_struct
use Rattle.syntax.specs.Views.{member_of}
use Rattle.resolution.specs.Scopes.{member_bears, the_member}
use Rattle.types_symbols.specs.Working.Views.{members_seen}
use Rattle.types_symbols.proofs.Finding.{found_is, found_none, found_past}
use Rattle.types_symbols.proofs.members.Structure.find.Goals as goal

pub returns : goal.returns
returns c =
    let s = c.self.inside in
    let m = c.in_ok-member.member in
    let here = subst (λ (ms : List rust.Member). IsItemAt ms c.in_ok-place.place (Some m)) c.deref.ensures.value c.in_ok-member.ensures.lookup in
    subst (λ (t : rust_struct.Struct). Some (c.in_ok-place.place, member_of m.now) ≡ the_member (members_seen t) c.args.name.now) c.self.view_is
    (found_is member_bears member_of s.item.now.members.items s.names c.args.name.now c.self.invariant.0 c.find.result c.in_ok-place.place m c.find.ensures c.in_ok-place.was here)

pub returns-in_err-place : goal.returns-in_err-place
returns-in_err-place c =
    let s = c.self.inside in
    rw c.from_residual.ensures
    (subst (λ (t : rust_struct.Struct). None ≡ the_member (members_seen t) c.args.name.now) c.self.view_is
    (found_none member_bears member_of s.item.now.members.items s.names c.args.name.now c.self.invariant.0 c.find.result c.find.ensures c.in_err-place.was))

pub returns-in_err-member : goal.returns-in_err-member
returns-in_err-member c =
    let s = c.self.inside in
    let past = subst (λ (ms : List rust.Member). IsItemAt ms c.in_ok-place.place None) c.deref.ensures.value c.in_err-member.ensures.lookup in
    rw c.from_residual-in_err-member.ensures
    (subst (λ (t : rust_struct.Struct). None ≡ the_member (members_seen t) c.args.name.now) c.self.view_is
    (found_past member_bears member_of s.item.now.members.items s.names c.args.name.now c.self.invariant.0 c.find.result c.in_ok-place.place c.find.ensures c.in_ok-place.was past))
