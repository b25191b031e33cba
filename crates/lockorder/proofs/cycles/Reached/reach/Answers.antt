use Rattle.std.proofs.Common.{◌<◌, not, length, sym, ap, ◌∙◌, arith}
use Rattle.std.proofs.lemmas.Bool.{both_ways}
use Rattle.lockorder.specs.Working.Tables.{has_edge}
use Rattle.lockorder.specs.declared.cycles.Reached.{Reached}
use Rattle.lockorder.proofs.Reaching.{all_kept, reached_within, reached_room, reaching_take, reaching_skip}
use Rattle.lockorder.proofs.Reaching.{distance_read, distance_none, distance_some}
use Rattle.lockorder.proofs.cycles.Reached.reach.Goals as goal
use Rattle.lockorder.proofs.cycles.Reached.reach.Goals.{then-has_edge+then-is_none+in_ok-push, else-has_edge}
use Rattle.lockorder.proofs.cycles.Reached.reach.Goals.{else-has_edge-via-then-has_edge+else-is_none}
use Rattle.lockorder.proofs.cycles.Reached.reach.Goals.{else-has_edge-via-else-has_edge}

pub loop-before-preserved : goal.loop-before-preserved
loop-before-preserved c =
    let before = c.args.table.now.before.items in
    let ds = c.loop-before.self.distances.items in
    let b = c.loop-before.before in
    let in_table : b < length before = omega (arith, c.loop-before-test.true, c.len-before-end.ensures, c.args.table.now.before.ok.0) in
    let lt : b < length ds = omega (arith, in_table, c.loop-before.invariant.reached.long) in
    let there : c.args.class < length c.args.self.now.distances.items =
    omega (arith, reached_within before _ c.requires.reached c.args.class c.requires.class, c.requires.reached.long) in
    elim c.if-has_edge.branch [
      | then-has_edge+then-is_none+in_ok-push w ↦
          reaching_take before _ c.loop-before.self c.if-has_edge.self c.args.class b c.in-Some.distance c.loop-before.invariant in_table
          (distance_read c.args.self.now.distances.items c.args.class c.index.result.now c.in-Some.distance there c.index.ensures c.in-Some.is) (sym c.has_edge.ensures ∙ w.if-has_edge.true)
          (distance_none ds b w.index-then-has_edge.result.now lt w.index-then-has_edge.ensures (w.is_none.ensures ∙ ap not w.if-is_none.true))
          (ap (λ (r : Reached). r.target) w.self-is) (ap (λ (r : Reached). r.distances.items) w.self-is) (ap (λ (r : Reached). r.classes.items) w.self-is ∙ w.in_ok-push.ensures.items)
      | else-has_edge w ↦ reaching_skip before _ c.loop-before.self c.if-has_edge.self c.args.class b c.loop-before.invariant w.self-is (λ e. elim w.else-has_edge.branch [
        | else-has_edge-via-then-has_edge+else-is_none v ↦
            distance_some ds b v.index-then-has_edge.result.now lt v.index-then-has_edge.ensures (v.is_none.ensures ∙ ap not v.if-is_none.false)
        | else-has_edge-via-else-has_edge v ↦ absurd (both_ways (has_edge before b c.args.class) (sym c.has_edge.ensures ∙ v.if-has_edge.false) e)
      ])
    ]

pub loop-before-init : goal.loop-before-init
loop-before-init c = record {
  reached = c.requires.reached;
  kept = all_kept c.args.self.now;
  done = λ b lt e. absurd (omega (arith, lt));
}

pub index-requires : goal.index-requires
index-requires c =
    omega (arith, reached_within c.args.table.now.before.items _ c.requires.reached c.args.class c.requires.class, c.requires.reached.long, c.args.self.now.distances.ok.0)

pub returns-clause-reached : goal.returns-clause-reached
returns-clause-reached c = c.loop-before.invariant.reached

pub returns-clause-kept : goal.returns-clause-kept
returns-clause-kept c = c.loop-before.invariant.kept

pub returns-clause-done : goal.returns-clause-done
returns-clause-done c b edge =
    c.loop-before.invariant.done b
    (omega (arith, c.args.table.now.within b c.args.class edge, c.loop-before-test.false, c.len-before-end.ensures, c.args.table.now.before.ok.0)) edge

pub overflow_add-distance : goal.overflow_add-distance
overflow_add-distance c =
    let before = c.args.table.now.before.items in
    let there : c.args.class < length c.args.self.now.distances.items =
    omega (arith, reached_within before _ c.requires.reached c.args.class c.requires.class, c.requires.reached.long) in
    let at = distance_read c.args.self.now.distances.items c.args.class c.index.result.now c.in-Some.distance there c.index.ensures c.in-Some.is in
    omega (arith, c.requires.reached.small c.args.class c.in-Some.distance at, reached_room before _ c.requires.reached, c.args.table.now.few)

pub has_edge-requires-clause-from : goal.has_edge-requires-clause-from
has_edge-requires-clause-from c = omega (arith, c.loop-before-test.true, c.len-before-end.ensures, c.args.table.now.before.ok.0)

pub has_edge-requires-clause-to : goal.has_edge-requires-clause-to
has_edge-requires-clause-to c = reached_within c.args.table.now.before.items _ c.requires.reached c.args.class c.requires.class

pub index-requires-then-has_edge : goal.index-requires-then-has_edge
index-requires-then-has_edge c =
    omega (arith, c.loop-before-test.true, c.len-before-end.ensures, c.args.table.now.before.ok.0, c.loop-before.invariant.reached.long, c.loop-before.self.distances.ok.0)

pub index_mut-requires : goal.index_mut-requires
index_mut-requires c =
    omega (arith, c.loop-before-test.true, c.len-before-end.ensures, c.args.table.now.before.ok.0, c.loop-before.invariant.reached.long, c.loop-before.self.distances.ok.0)
