use Rattle.std.specs.Prelude.{OnOk, List, ℕ, ◌++◌}
use Rattle.std.specs.Fmt.{decimal}
use Rattle.std.proofs.Common.{subst, ◌∙◌, ap}
use Rattle.rope.specs.Working.Ropes.{groups_of, AddsTo}
use Rattle.rope.proofs.Ropes.{own_added, made}
use Rattle.rope.proofs.text.Rope.push_number.Goals as goal

pub returns : goal.returns
returns c =
    let x = c.self.inside in
    let grown = c.extend_from_slice.new.self.items in
    subst (λ (text : List ℕ). OnOk c.extend_from_slice.result (AddsTo text c.args.self.now (made grown (groups_of x.groups.items) x.inserts.items x.last)))
    (c.as_bytes.ensures.value ∙ c.in_ok-write.ensures.bytes ∙ ap (λ (old : List ℕ). old ++ decimal c.args.number) c.clear.ensures.bytes)
    (own_added c.extend_from_slice.result x.own.items grown c.as_bytes.result.now (groups_of x.groups.items) _ x.inserts.items x.last
    c.args.self.now c.self.view_is c.self.invariant c.extend_from_slice.ensures.items)
