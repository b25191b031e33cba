use Rattle.meaning.proofs.Depths.{room, size_of}
use Rattle.std.proofs.Common.{◌≡◌, ◌+◌, ◌*◌, drop}
use Rattle.core_lang.specs.Meaning.{truth_of, turns}
use Rattle.meaning.specs.Working.Execution.{state_of, Keeps}
use Rattle.meaning.specs.Working.Within.{sequence_within, while_within}
use Rattle.meaning.proofs.execution.Execution.+run.Given as goal

abbrev pub invariant-repeat-loop-left : goal.invariant-repeat-loop-left
invariant-repeat-loop-left l = record {
  same : turns l.left (λ s. truth_of l.condition l.shape s.locals s.heap) (sequence_within l.body l.shape l.bounds) (state_of l.self)
      ≡ while_within l.condition l.body l.shape l.bounds (state_of l.fn.self);
  keeps : Keeps l.fn.self l.self;
}

abbrev pub decreases-repeat-loop-left : goal.decreases-repeat-loop-left
decreases-repeat-loop-left l = l.left

abbrev pub invariant-steps-loop-s : goal.invariant-steps-loop-s
invariant-steps-loop-s l = record {
  same : sequence_within (drop l.s-index l.block) l.shape l.bounds (state_of l.self) ≡ sequence_within l.block l.shape l.bounds (state_of l.fn.self);
  keeps : Keeps l.fn.self l.self;
}

-- a call is one level deeper, and each helper's body is smaller than the room for a call
abbrev pub decreases-steps : goal.decreases-steps
decreases-steps l = l.bounds.now.depth * room l.shape.now + 8 * goal.size-steps l

abbrev pub decreases-run_all : goal.decreases-run_all
decreases-run_all l = l.bounds.now.depth * room l.shape.now + 8 * goal.size-run_all l + 1

abbrev pub decreases-repeat : goal.decreases-repeat
decreases-repeat l = l.bounds.now.depth * room l.shape.now + 8 * goal.size-repeat l + 1

abbrev pub decreases-run : goal.decreases-run
decreases-run l = l.bounds.now.depth * room l.shape.now + 8 * goal.size-run l + 2

abbrev pub decreases-call : goal.decreases-call
decreases-call l = l.bounds.now.depth * room l.shape.now + 1

abbrev pub decreases-help : goal.decreases-help
decreases-help l = l.bounds.now.depth * room l.shape.now

abbrev pub decreases-finish : goal.decreases-finish
decreases-finish l = l.bounds.now.depth * room l.shape.now + size_of l.section.now + 2
