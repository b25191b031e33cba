use Rattle.std.proofs.Common.{◌≡◌, ◌<◌, ℕ, Some}
use Rattle.std.specs.Prelude.{slice_get}
use Rattle.syntax.specs.Trees.{Ident, Decl}
use Rattle.explanation_names.specs.NameSpaces.{top_names, IsDeclaredIn}
use Rattle.explanation_faults.specs.Working.Values.{decls_of}
use Rattle.explanation_faults.proofs.tree_notes.Faulty.declared_first.Given as goal

-- none of the declarations so far has such a name
abbrev pub invariant-loop-decl : goal.invariant-loop-decl
invariant-loop-decl l =
    (k : ℕ) → k < l.decl-index → (d : Decl) → slice_get (decls_of l.self) k ≡ Some d → (x : Ident) → IsDeclaredIn (top_names (decls_of l.self)) d l.self.at x → ⊥
