use Rattle.std.proofs.Common.{◌≡◌, ◌<◌, ℕ, map, take, Some}
use Rattle.std.specs.Prelude.{slice_get}
use Rattle.syntax.specs.Trees.{Init, init}
use Rattle.syntax.specs.Views.{decl_of}
use Rattle.explanation_faults.specs.Inits.{IsFirstGiver}
use Rattle.explanation_faults.proofs.first_inits.first_given.Given as goal

-- no `init` so far that starts at the place repeats what another one gives
abbrev pub invariant-loop-i : goal.invariant-loop-i
invariant-loop-i l =
    (k : ℕ) → k < l.i → (j : Init) → slice_get (map decl_of l.decls) k ≡ Some (init j) → j.start.start ≡ l.at →
    (first : Init) → IsFirstGiver (take k (map decl_of l.decls)) j first → ⊥
