use Rattle.std.proofs.Common.{◌≡◌, ◌+◌, ◌*◌, ◌≤◌, ◌++◌, ℕ, drop, length, vec_len}
use Rattle.std.specs.Prelude.{reverse}
use Rattle.flow.specs.Skeletons.{count, Nil}
use Rattle.flow.specs.Working.Parts.{skeleton_of, part_in_front}
use Rattle.flow.specs.Theory.Gather.{or}
use Rattle.flow.specs.Theory.Passes.{behind, laters}
use Rattle.locks.specs.Sets.{has}
use Rattle.points.specs.Working.Dataflow.{column, marks, down_to}
use Rattle.points.proofs.dataflow.Dataflow.+backward.Given as goal

abbrev pub invariant-backward-loop-i : goal.invariant-backward-loop-i
invariant-backward-loop-i l = record {
  within : l.i ≤ length l.parts;
  sets : (i : ℕ) →
      column i l.sets.items ≡ column i l.initial.sets.items
      ++ reverse (laters or (marks i l.self.gens.now) (skeleton_of (drop l.i l.parts)) (down_to l.self l.sets)
      (has l.initial.all i));
  len : vec_len l.sets ≡ vec_len l.initial.sets + count (skeleton_of (drop l.i l.parts));
  set : (i : ℕ) →
      has l.all i ≡ behind or (marks i l.self.gens.now) (skeleton_of (drop l.i l.parts)) (down_to l.self l.sets)
      (has l.initial.all i);
}

abbrev pub decreases-backward-loop-i : goal.decreases-backward-loop-i
decreases-backward-loop-i l = l.i

abbrev pub decreases-backward : goal.decreases-backward
decreases-backward l = 2 * count (skeleton_of l.parts.now) + 1

abbrev pub decreases-backward_part : goal.decreases-backward_part
decreases-backward_part l = 2 * count (part_in_front l.part.now Nil)
