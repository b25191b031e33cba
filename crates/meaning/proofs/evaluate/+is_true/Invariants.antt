use Rattle.std.proofs.Common.{◌≡◌, drop}
use Rattle.core_lang.specs.Meaning.{truth_of}
use Rattle.core_lang.specs.Theory.Lists.{all_of, any_of}
use Rattle.meaning.proofs.evaluate.+is_true.Given as goal

abbrev pub invariant-loop-c : goal.invariant-loop-c
invariant-loop-c l = all_of (drop l.c-index l.c-items) l.shape l.locals l.heap (truth_of l.last.value l.shape l.locals l.heap) ≡ truth_of l.fn.c l.shape l.locals l.heap

abbrev pub decreases-is_true : goal.decreases-is_true
decreases-is_true l = goal.size-is_true l

abbrev pub invariant-loop-c-2 : goal.invariant-loop-c-2
invariant-loop-c-2 l = any_of (drop l.c-index l.c-items) l.shape l.locals l.heap (truth_of l.last.value l.shape l.locals l.heap) ≡ truth_of l.fn.c l.shape l.locals l.heap
