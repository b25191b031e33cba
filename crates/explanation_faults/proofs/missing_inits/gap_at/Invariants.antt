use Rattle.std.proofs.Common.{◌≡◌, ℕ, ◌<◌, Some}
use Rattle.std.specs.Prelude.{slice_get}
use Rattle.types_symbols.specs.Working.Views.{decls_of}
use Rattle.syntax.specs.Trees.{Pool, pool}
use Rattle.explanation_faults.specs.Working.Values.{IsWhole}
use Rattle.explanation_faults.proofs.missing_inits.gap_at.Given as goal

-- the pools so far have no gap
abbrev pub invariant-loop-place : goal.invariant-loop-place
invariant-loop-place l =
    (k : ℕ) → k < l.place → (p : Pool) → slice_get (decls_of l.symbols) k ≡ Some (pool p) → IsWhole (decls_of l.symbols) k p l.at
