use Rattle.rope.specs.Working.Ropes.{groups_of}
use Rattle.rope.proofs.Ropes.{own_added}
use Rattle.rope.proofs.text.Rope.push_str.Goals as goal

pub returns : goal.returns
returns c =
    let x = c.self.inside in
    own_added c.extend_from_slice.result x.own.items c.extend_from_slice.new.self.items c.args.text.now (groups_of x.groups.items) _ x.inserts.items x.last
    c.args.self.now c.self.view_is c.self.invariant (rw c.as_bytes.ensures.value at c.extend_from_slice.ensures.items)
