use Rattle.std.proofs.Common.{◌≡◌, ◌<◌, ℕ, map, Some}
use Rattle.std.specs.Prelude.{slice_get}
use Rattle.syntax.specs.Trees.{Decl, Section}
use Rattle.syntax.specs.Views.{decl_of}
use Rattle.explanation_names.specs.MissingReturns.{body_of, LacksReturn}
use Rattle.explanation_names.proofs.missing_returns.lacking.Given as goal

-- no section so far lacks a return at this place
abbrev pub invariant-loop-decl : goal.invariant-loop-decl
invariant-loop-decl l =
    (k : ℕ) → k < l.decl-index → (d : Decl) → slice_get (map decl_of l.decls) k ≡ Some d → (s : Section) → body_of d ≡ Some s → LacksReturn s l.at → ⊥
