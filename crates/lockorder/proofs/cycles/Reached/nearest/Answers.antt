use Rattle.std.proofs.Common.{◌≡◌, ◌+◌, ◌<◌, length, sym, ◌∙◌, subst, arith}
use Rattle.std.proofs.lemmas.Bool.{both_ways}
use Rattle.lockorder.specs.Working.Tables.{has_edge}
use Rattle.lockorder.specs.Working.Reached.{IsNearestBelow}
use Rattle.lockorder.proofs.Reaching.{nearest_skip, nearest_take, distance_read, distance_unread}
use Rattle.lockorder.proofs.cycles.Reached.nearest.Goals as goal
use Rattle.lockorder.proofs.cycles.Reached.nearest.Goals.{then-has_edge+in-Some, then-has_edge+in_default}
use Rattle.lockorder.proofs.cycles.Reached.nearest.Goals.{else-has_edge}

pub loop-next-preserved : goal.loop-next-preserved
loop-next-preserved c =
    let before = c.args.table.now.before.items in
    let ds = c.args.self.now.distances.items in
    let lt : c.loop-next.next < length ds = omega (arith, c.requires.all.reached.long, c.loop-next-test.true, c.len-next-end.ensures, c.args.table.now.before.ok.0) in
    elim c.if-has_edge.branch [
      | then-has_edge+in-Some w ↦
          subst (IsNearestBelow before ds c.args.class (c.loop-next.next + 1)) (sym (w.nearest-is ∙ w.nearer-nearest.ensures))
          (nearest_take before ds c.args.class c.loop-next.next w.in-Some.distance (sym c.has_edge.ensures ∙ w.if-has_edge.true)
          (distance_read ds c.loop-next.next w.index.result.now w.in-Some.distance lt w.index.ensures w.in-Some.is) c.loop-next.nearest c.loop-next.invariant)
      | then-has_edge+in_default w ↦
          subst (IsNearestBelow before ds c.args.class (c.loop-next.next + 1)) (sym w.nearest-is)
          (nearest_skip before ds c.args.class c.loop-next.next c.loop-next.nearest c.loop-next.invariant
          (λ k edge e. distance_unread ds c.loop-next.next w.index.result.now lt w.index.ensures w.in_default.not-Some k e))
      | else-has_edge w ↦
          subst (IsNearestBelow before ds c.args.class (c.loop-next.next + 1)) (sym w.nearest-is)
          (nearest_skip before ds c.args.class c.loop-next.next c.loop-next.nearest c.loop-next.invariant
          (λ k edge e. both_ways (has_edge before c.args.class c.loop-next.next) (sym c.has_edge.ensures ∙ w.if-has_edge.false) edge))
    ]

pub returns : goal.returns
returns c =
    let end : c.loop-next.next ≡ length c.args.table.now.before.items =
    omega (arith, c.loop-next-test.false, c.loop-next.auto.next-end, c.len-next-end.ensures, c.args.table.now.before.ok.0) in
    subst (λ n. IsNearestBelow c.args.table.now.before.items c.args.self.now.distances.items c.args.class n c.loop-next.nearest) end c.loop-next.invariant
