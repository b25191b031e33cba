use Rattle.std.proofs.Common.{◌≡◌, ◌+◌, ◌*◌, ℕ, drop}
use Rattle.flow.specs.Skeletons.{count, Nil}
use Rattle.flow.specs.Working.Parts.{skeleton_of, part_in_front}
use Rattle.flow.specs.Theory.Held.{through}
use Rattle.locks.specs.Sets.{has}
use Rattle.points.specs.Working.Dataflow.{joins, transfers}
use Rattle.points.proofs.dataflow.Dataflow.+through.Given as goal

abbrev pub invariant-through-loop-part : goal.invariant-through-loop-part
invariant-through-loop-part l = record {
  set : (i : ℕ) →
      through (transfers l.self i) (joins l.self) (skeleton_of (drop l.part-index l.parts)) l.at (has l.all i)
      ≡ through (transfers l.self i) (joins l.self) (skeleton_of l.parts) l.n (has l.initial.all i);
  next : l.at + count (skeleton_of (drop l.part-index l.parts)) ≡ l.n + count (skeleton_of l.parts);
}

abbrev pub decreases-through : goal.decreases-through
decreases-through l = 2 * count (skeleton_of l.parts.now) + 1

abbrev pub decreases-through_part : goal.decreases-through_part
decreases-through_part l = 2 * count (part_in_front l.part.now Nil)
