use Rattle.std.proofs.Common.{◌≡◌, ◌+◌, ◌*◌, ◌++◌, drop}
use Rattle.flow.specs.Skeletons.{count, Nil}
use Rattle.flow.specs.Flow.{pairs_from}
use Rattle.flow.specs.Working.Parts.{skeleton_of, part_in_front}
use Rattle.points.specs.Working.Ends.{AreEndsAt}
use Rattle.points.proofs.pairs.Pass.+pairs.Given as goal

abbrev pub invariant-push_pairs-loop-i : goal.invariant-push_pairs-loop-i
invariant-push_pairs-loop-i l = record {
  list : l.list.items ++ pairs_from (skeleton_of (drop l.i l.parts)) l.at l.next ≡ l.initial.list.items ++ pairs_from (skeleton_of l.parts) l.n l.next;
  ends : AreEndsAt l.self.ends.now (skeleton_of (drop l.i l.parts)) l.at;
}

abbrev pub decreases-push_pairs : goal.decreases-push_pairs
decreases-push_pairs l = 2 * count (skeleton_of l.parts.now) + 1

abbrev pub decreases-push_part : goal.decreases-push_part
decreases-push_part l = 2 * count (part_in_front l.part.now Nil)
