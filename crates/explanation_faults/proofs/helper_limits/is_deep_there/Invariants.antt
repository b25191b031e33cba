use Rattle.std.proofs.Common.{◌≡◌, ◌<◌, ℕ, Some, false}
use Rattle.std.specs.Prelude.{slice_get}
use Rattle.core_lang_helpers.specs.Depths.{depth, is_endless}
use Rattle.core_lang_helpers.specs.Faults.{DEPTH_LIMIT}
use Rattle.core_lang_helpers.specs.Graphs.{Body, bodies_of}
use Rattle.explanation_faults.proofs.helper_limits.is_deep_there.Given as goal

-- no helper so far is declared at the place and too deep
abbrev pub invariant-loop-number : goal.invariant-loop-number
invariant-loop-number l =
    (k : ℕ) → k < l.number → (b : Body) → slice_get (bodies_of l.helpers) k ≡ Some b → b.start ≡ l.at → is_endless (bodies_of l.helpers) k ≡ false →
    DEPTH_LIMIT < depth (bodies_of l.helpers) k → ⊥
