use Rattle.std.proofs.Common.{◌<◌, ◌+◌, ◌∙◌, ℕ, Vec, Global, arith, ap, subst, sym, length}
use Rattle.bit_set.specs.Working.Sets.{has_number}
use Rattle.outcomes.specs.Working.Grouping.{AreLinked}
use Rattle.outcomes.proofs.Grouped.{Joining, joining_then, joining_else, linked_then}
use Rattle.outcomes.proofs.groups.join.Goals as goal
use Rattle.outcomes.proofs.groups.join.Goals.{then-contains, else-contains}

pub loop-thread-preserved : goal.loop-thread-preserved
loop-thread-preserved c =
    let before = c.args.groups.now.items in
    let now = c.loop-thread.groups.items in
    let i = c.loop-thread.thread in
    let first = c.in-Some.first in
    let touching = has_number c.union-touching.result in
    let lt : i < length now = omega (
      arith,
      c.loop-thread-test.true,
      c.len-thread-end.ensures,
      c.loop-thread.invariant.coarser.0,
    ) in
    let lt' : first < length now = omega (
      arith,
      c.in-Some.ensures.some.0,
      c.len.ensures,
      c.loop-thread.invariant.coarser.0,
    ) in
    let inv : Joining before now i first touching =
    record { coarser = c.loop-thread.invariant.coarser; joined = c.loop-thread.invariant.joined } in
    let next : Joining before c.if-contains.groups.items (i + 1) first touching =
    elim c.if-contains.branch [
      | then-contains w ↦
          subst (λ l. Joining before l (i + 1) first touching) (sym (ap (λ (g : Vec ℕ Global). g.items) w.groups-is))
          (joining_then before now w.relabel.new.groups.items i first w.index-group.result.now
          w.index-joined.result.now touching lt lt'
          w.index-group.ensures w.index-joined.ensures inv w.relabel.ensures)
      | else-contains w ↦
          subst (λ l. Joining before l (i + 1) first touching) (sym (ap (λ (g : Vec ℕ Global). g.items) w.groups-is))
          (joining_else before now i first touching (sym c.contains.ensures ∙ w.if-contains.false) inv)
    ] in
    let linked : AreLinked before c.if-contains.groups.items c.args.readers c.args.writers =
    elim c.if-contains.branch [
      | then-contains w ↦
          subst (λ l. AreLinked before l c.args.readers c.args.writers) (sym (ap (λ (g : Vec ℕ Global). g.items) w.groups-is))
          (linked_then before now w.relabel.new.groups.items i first w.index-group.result.now w.index-joined.result.now
          c.args.readers c.args.writers lt lt' w.index-group.ensures w.index-joined.ensures c.in-Some.ensures.some.1
          (sym (c.union-touching.ensures i) ∙ sym c.contains.ensures ∙ w.if-contains.true) c.loop-thread.invariant.linked w.relabel.ensures)
      | else-contains w ↦
          subst (λ l. AreLinked before l c.args.readers c.args.writers) (sym (ap (λ (g : Vec ℕ Global). g.items) w.groups-is))
          c.loop-thread.invariant.linked
    ] in
    record { coarser = next.coarser; linked = linked; joined = next.joined }
