use Rattle.std.proofs.Common.{◌<◌, length, sym, ap, ◌∙◌, subst, arith}
use Rattle.std.specs.Prelude.{◌==◌}
use Rattle.std.proofs.lemmas.Bool.{both_ways, not-false, eqb-true}
use Rattle.locks.specs.declared.path_set.PathSet.{PathSet}
use Rattle.locks.specs.Sets.{has}
use Rattle.lockorder.specs.Working.Sections.{IsIn}
use Rattle.lockorder.proofs.Bound.{AreListedBelow, none_listed, point_listed, point_skipped, all_listed}
use Rattle.lockorder.proofs.InSection.{set_read, same_bits}
use Rattle.lockorder.proofs.bindings.list_of.Goals as goal
use Rattle.lockorder.proofs.bindings.list_of.Goals.{then-ne+in_ok-push, else-ne}

pub loop-point-init : goal.loop-point-init
loop-point-init c = subst (AreListedBelow c.args.points.now 0) (sym c.new-list.ensures.items) (none_listed c.args.points.now)

pub loop-point-preserved : goal.loop-point-preserved
loop-point-preserved c =
    let x = c.args.points.now in
    let p = c.loop-point.point in
    let lt : p < length x.bound.items = omega (arith, c.loop-point-test.true, c.len-point-end.ensures, x.bound.ok.0) in
    let read = set_read x.bound.items p c.index.result.now lt c.index.ensures in
    elim c.if-ne.branch [
      | then-ne+in_ok-push w ↦ point_listed x p c.loop-point.list.items c.loop-point.invariant c.if-ne.list.items (ap (λ l. l.items) w.list-is ∙ w.in_ok-push.ensures.items)
      | else-ne w ↦
          point_skipped x p c.loop-point.list.items c.loop-point.invariant c.if-ne.list.items (ap (λ l. l.items) w.list-is)
          (λ i h.
          both_ways (has c.new.result i) (c.new.ensures i)
          (same_bits c.index.result.now c.new.result i
          (eqb-true c.index.result.now.bits c.new.result.bits (not-false (c.index.result.now.bits == c.new.result.bits) (sym c.ne.ensures ∙ w.if-ne.false)))
          (subst (λ (s : PathSet). IsIn s i) (sym read) h)))
    ]

pub returns : goal.returns
returns c =
    let x = c.args.points.now in
    all_listed x c.loop-point.point c.loop-point.list.items c.loop-point.invariant
    (omega (arith, c.loop-point-test.false, c.loop-point.auto.point-end, c.len-point-end.ensures, x.bound.ok.0))
