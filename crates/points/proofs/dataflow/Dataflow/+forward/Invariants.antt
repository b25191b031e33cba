use Rattle.std.proofs.Common.{◌≡◌, ◌+◌, ◌*◌, ◌++◌, ℕ, drop, vec_len}
use Rattle.flow.specs.Skeletons.{count, Nil}
use Rattle.flow.specs.Working.Parts.{skeleton_of, part_in_front}
use Rattle.flow.specs.Theory.Held.{through, holds}
use Rattle.locks.specs.Sets.{has}
use Rattle.points.specs.Working.Dataflow.{column, joins, transfers}
use Rattle.points.proofs.dataflow.Dataflow.+forward.Given as goal

abbrev pub invariant-forward-loop-part : goal.invariant-forward-loop-part
invariant-forward-loop-part l = record {
  sets : (i : ℕ) →
      column i l.sets.items
      ++ holds (transfers l.self i) (joins l.self) (skeleton_of (drop l.part-index l.parts)) l.sets.len (has l.all i)
      ≡ column i l.initial.sets.items
      ++ holds (transfers l.self i) (joins l.self) (skeleton_of l.parts) l.initial.sets.len (has l.initial.all i);
  len : vec_len l.sets + count (skeleton_of (drop l.part-index l.parts))
      ≡ vec_len l.initial.sets + count (skeleton_of l.parts);
  set : (i : ℕ) →
      through (transfers l.self i) (joins l.self) (skeleton_of (drop l.part-index l.parts)) l.sets.len (has l.all i)
      ≡ through (transfers l.self i) (joins l.self) (skeleton_of l.parts) l.initial.sets.len (has l.initial.all i);
}

abbrev pub decreases-forward : goal.decreases-forward
decreases-forward l = 2 * count (skeleton_of l.parts.now) + 1

abbrev pub decreases-forward_part : goal.decreases-forward_part
decreases-forward_part l = 2 * count (part_in_front l.part.now Nil)
