use Rattle.std.proofs.Common.{◌≡◌, ℕ, ◌<◌, Some}
use Rattle.std.specs.Prelude.{slice_get}
use Rattle.types_symbols.specs.Working.Views.{decls_of, members_seen}
use Rattle.syntax.specs.Trees.{Final, Member}
use Rattle.explanation_faults.specs.Working.Values.{AllGiven, due_final}
use Rattle.explanation_faults.proofs.missing_inits.missing_final.Given as goal

-- the final references so far are given to all members of their pools
abbrev pub invariant-loop-place : goal.invariant-loop-place
invariant-loop-place l =
    (k : ℕ) → k < l.place → (m : Member) (f : Final) → slice_get (members_seen l.structure) k ≡ Some m → due_final (members_seen l.structure) k m ≡ Some f →
    AllGiven (decls_of l.symbols) l.pool k l.length
