use Rattle.std.proofs.Common.{◌≡◌, ◌+◌, ◌*◌, drop}
use Rattle.flow.specs.Skeletons.{count, Nil}
use Rattle.flow.specs.Working.Parts.{skeleton_of, part_in_front}
use Rattle.points.proofs.counting.+points.Given as goal

abbrev pub invariant-points_in-loop-part : goal.invariant-points_in-loop-part
invariant-points_in-loop-part l = l.points + count (skeleton_of (drop l.part-index l.parts)) ≡ count (skeleton_of l.parts)

abbrev pub decreases-points_in : goal.decreases-points_in
decreases-points_in l = 2 * count (skeleton_of l.parts.now) + 1

abbrev pub decreases-points_of : goal.decreases-points_of
decreases-points_of l = 2 * count (part_in_front l.part.now Nil)
