-- The last step of a path, and paths on the left.
use Rattle.std.proofs.Common.{◌≡◌, ℕ, List, ◌++◌, Option, ap, ◌∙◌}
use Rattle.resolution.specs.declared.finding.Finding.{Finding}
use Rattle.resolution.specs.Working.Findings.{Firsts, found_in}
use Rattle.syntax.specs.Trees.{Decl, Ident}
use Rattle.resolution.specs.Scopes.{Meaning}
use Rattle.resolution.specs.Expressions.{Walk, walk_from}
use Rattle.resolution.specs.Working.FaultLists.{final_faults, path_faults}
use Rattle.types_symbols.specs.Theory.Steps.{noted_one}
use Rattle.resolution.specs.Working.TypedStatements.{Assignee, assignee_along}

-- ---- a path on the left, by what each part is

module _ (decls : List Decl) (start : ℕ) (m n : Meaning) (fs gs : List Ident) (w : Walk) (named : m ≡ n) (same : fs ≡ gs) (reached : w ≡ walk_from decls m fs) where
  pub along_seen : (a : Option Assignee) → a ≡ assignee_along start m w →
      a ≡ assignee_along start n (walk_from decls n gs)
  along_seen a ha =
      ha ∙ ap (assignee_along start m) (reached ∙ ap (walk_from decls m) same)
      ∙ ap (λ (k : Meaning). assignee_along start k (walk_from decls k gs)) named

  pub along_blamed : (f g h : Firsts) → g ≡ found_in f (path_faults decls start m fs) →
      h ≡ found_in g (final_faults start w) →
      h ≡ found_in f (path_faults decls start n gs ++ final_faults start (walk_from decls n gs))
  along_blamed f g h hg hh =
      hh ∙ noted_one f g (path_faults decls start m fs) (final_faults start w) hg
      ∙ ap (λ (x : Walk). found_in f (path_faults decls start m fs ++ final_faults start x)) reached
      ∙ ap (λ (l : List Ident). found_in f (path_faults decls start m l ++ final_faults start (walk_from decls m l))) same
      ∙ ap (λ (k : Meaning). found_in f (path_faults decls start k gs ++ final_faults start (walk_from decls k gs))) named
