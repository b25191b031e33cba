use Rattle.std.proofs.Common.{rules, ◌+◌, ◌<◌, ◌∙◌, ◌*◌, ap, arith, sym, subst, drop, get_or}
use Rattle.flow.specs.Skeletons.{count, Nil}
use Rattle.flow.specs.Flow.{head}
use Rattle.std.proofs.lemmas.List.{take_rest}
use Rattle.flow.specs.Working.Parts.{skeleton_of, part_in_front}
use Rattle.flow.specs.Theory.Joined.{count_turn, count_drop}
use Rattle.points.specs.Working.Ends.{AreEndsAt}
use Rattle.points.proofs.EndLists.{end_of, ends_split}
use Rattle.points.proofs.PairLists.{pairs_turn}
use Rattle.points.proofs.pairs.Pass.+pairs.Goals as goal

pub push_pairs-push_part-requires : goal.push_pairs-push_part-requires
push_pairs-push_part-requires t c =
    let ps = c.args.parts.now in
    let turn = count_turn ps c.loop-i.i c.index-parts-i.result c.index-parts-i.is c.loop-i-test.true in
    let all = count_drop ps c.loop-i.i in
    let falls : 2 * count (part_in_front c.index-parts-i.result Nil) < 2 * count (skeleton_of ps) + 1 = omega (arith, turn, all) in
    (search rules, (ends_split c.args.self.now.ends.now ps c.loop-i.i c.loop-i.at c.index-parts-i.result c.index-parts-i.is c.loop-i-test.true c.loop-i.invariant.ends).0)

pub push_pairs-loop-i-preserved : goal.push_pairs-loop-i-preserved
push_pairs-loop-i-preserved t c =
    let ends = c.args.self.now.ends.now in
    let ps = c.args.parts.now in
    let split = ends_split ends ps c.loop-i.i c.loop-i.at c.index-parts-i.result c.index-parts-i.is c.loop-i-test.true c.loop-i.invariant.ends in
    let behind = (get_or ends c.loop-i.at (record { middle = 0; end = 0 })).end in
    let end = end_of ends c.index-parts-i.result c.loop-i.at split.0 in
    record {
      list =
          pairs_turn ps c.loop-i.i c.index-parts-i.result c.index-parts-i.is c.loop-i-test.true _ _ c.loop-i.at behind c.args.next c.first_point-follower.result end
          (c.first_point-follower.ensures ∙ ap (λ xs. head (skeleton_of xs) behind c.args.next) (take_rest ps (c.loop-i.i + 1))) c.in_ok-push_part.ensures ∙ c.loop-i.invariant.list;
      ends = subst (AreEndsAt ends (skeleton_of (drop (c.loop-i.i + 1) ps))) (sym end) split.1;
    }
