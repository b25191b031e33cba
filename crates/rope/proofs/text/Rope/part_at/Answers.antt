use Rattle.std.proofs.Common.{[], length, sym, ap, ◌∙◌, arith}
use Rattle.std.proofs.lemmas.List.{get_or-map, length-map}
use Rattle.rope.specs.Working.Ropes.{RopeOf, groups_of, piece, part_of, part_at}
use Rattle.rope.proofs.text.Rope.part_at.Goals as goal

pub returns : goal.returns
returns c =
    let x = c.self.inside in
    let pieces = piece x.own.items (groups_of x.groups.items) in
    let d = c.index-insert.result.now in
    let lt = ap (λ (v : RopeOf). length v.inserted) c.self.view_is in
    c.as_bytes.ensures.value ∙ c.part_in.ensures
    ∙ ap (λ gs. part_of (groups_of gs) d.group d.number) c.deref.ensures.value
    ∙ ap (λ i. (pieces i).1) c.index-insert.ensures
    ∙ sym (ap (λ p. p.1) (get_or-map pieces x.inserts.items c.args.insert d ([], [])
    (omega (arith, lt, length-map x.inserts.items pieces, c.requires))))
    ∙ ap (λ (v : RopeOf). part_at v.inserted c.args.insert) c.self.view_is
