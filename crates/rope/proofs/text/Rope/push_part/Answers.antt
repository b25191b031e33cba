use Rattle.std.proofs.Common.{ℕ, List, subst, ap, ◌∙◌}
use Rattle.std.specs.Prelude.{OnOk}
use Rattle.rope.specs.Working.Ropes.{RopeOf, groups_of, part_of, AddsTo}
use Rattle.rope.proofs.Ropes.{own_added, made}
use Rattle.rope.proofs.text.Rope.push_part.Goals as goal

pub returns-then-part-le-COPIED : goal.returns-then-part-le-COPIED
returns-then-part-le-COPIED c =
    let x = c.self.inside in
    let grown = c.extend_from_slice.new.self.items in
    subst (λ (text : List ℕ). OnOk c.extend_from_slice.result (AddsTo text c.args.self.now (made grown (groups_of x.groups.items) x.inserts.items x.last)))
    (c.part_in-part.ensures ∙ ap (λ gs. part_of (groups_of gs) c.args.group c.args.number) c.deref.ensures.value
    ∙ ap (λ (v : RopeOf). part_of v.groups c.args.group c.args.number) c.self.view_is)
    (own_added c.extend_from_slice.result x.own.items grown c.part_in-part.result.now (groups_of x.groups.items) _ x.inserts.items x.last
    c.args.self.now c.self.view_is c.self.invariant (rw c.as_bytes.ensures.value at c.extend_from_slice.ensures.items))
