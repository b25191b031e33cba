use Rattle.std.proofs.Common.{◌≡◌, ◌+◌, ◌*◌, ◌++◌, drop, length}
use Rattle.flow.specs.Skeletons.{count, Nil}
use Rattle.flow.specs.Working.Parts.{skeleton_of, part_in_front}
use Rattle.points.specs.Working.Ends.{ends_from}
use Rattle.points.proofs.ends.+ends.Given as goal

abbrev pub invariant-push_ends-loop-part : goal.invariant-push_ends-loop-part
invariant-push_ends-loop-part l =
    l.ends.items ++ ends_from (skeleton_of (drop l.part-index l.parts)) (length l.ends.items)
    ≡ l.initial.ends.items ++ ends_from (skeleton_of l.parts) (length l.initial.ends.items)

abbrev pub decreases-push_ends : goal.decreases-push_ends
decreases-push_ends l = 2 * count (skeleton_of l.parts.now) + 1

abbrev pub decreases-push_part : goal.decreases-push_part
decreases-push_part l = 2 * count (part_in_front l.part.now Nil)
