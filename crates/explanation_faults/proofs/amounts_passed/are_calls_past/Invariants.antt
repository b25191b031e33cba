use Rattle.std.proofs.Common.{◌≡◌, ◌<◌, ℕ, Some, true, map}
use Rattle.std.specs.Prelude.{slice_get}
use Rattle.resolution.specs.Scopes.{declared}
use Rattle.syntax.specs.Trees.{Decl}
use Rattle.syntax.specs.Views.{decl_of}
use Rattle.explanation_faults.specs.Working.AmountsFound.{begins, ends_few}
use Rattle.explanation_faults.proofs.amounts_passed.are_calls_past.Given as goal

-- none of the calls so far is the first over the limit
abbrev pub invariant-loop-place : goal.invariant-loop-place
invariant-loop-place l =
    (k : ℕ) → k < l.place → (d : Decl) → slice_get (map decl_of l.decls) k ≡ Some d → begins l.at (declared d) ≡ true → ends_few (map decl_of l.decls) k ≡ true → ⊥
