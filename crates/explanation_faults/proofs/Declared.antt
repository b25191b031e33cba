-- What is found of the names inside a declaration.
use Rattle.std.proofs.Common.{◌≡◌, ℕ, true, false, List, Option, Some, None, refl, sym, subst}
use Rattle.std.specs.Prelude.{slice_get}
use denote.Ref.{Bor}
use Rattle.syntax.specs.declared.tree.Name.{Name}
use Rattle.syntax.specs.Trees.{Ident, ClassName, Decl}
use Rattle.resolution.specs.Scopes.{has_body}
use Rattle.explanation_names.specs.NameSpaces.{inner_names, classes_in, top_names, Repeats, Bears, ListsAgain}
use Rattle.explanation_names.specs.NameSpaces.{IsDeclaredIn, inside, twice_listed, outside}
use Rattle.explanation_names.specs.NameSpaces.{IsDeclaredAs, at_the_top, in_one}
use Rattle.explanation_faults.proofs.Places.{has_at}
use Rattle.explanation_names.specs.Working.Viewed.{FoundName}

pub found_alike : (P Q : Ident → Type 0) (o : Option (Bor Name)) → ((x : Ident) → P x → Q x) →
    ((x : Ident) → Q x → P x) → FoundName P o → FoundName Q o
found_alike P Q None to back none = λ x q. none x (back x q)
found_alike P Q (Some name) to back is = to _ is

module _ (top names : List Ident) (d : Decl) (at : ℕ) (same : names ≡ inner_names d) where
  pub is_inside : (x : Ident) → Repeats names at x → IsDeclaredIn top d at x
  is_inside x r = inside (subst (λ (l : List Ident). Repeats l at x) same r)

  pub is_listed : (c : ClassName) → ListsAgain (classes_in d) at c → IsDeclaredIn top d at c.structure
  is_listed c a = twice_listed a refl

  module _ (none : (x : Ident) → Repeats names at x → ⊥) (unlisted : (c : ClassName) →
      ListsAgain (classes_in d) at c → ⊥) where
    pub not_inside : (x : Ident) → Repeats (inner_names d) at x → ⊥
    not_inside x r = none x (subst (λ (l : List Ident). Repeats l at x) (sym same) r)

    out_alone : (x : Ident) → IsDeclaredIn top d at x → Bears top names at x
    out_alone x (inside r) = absurd (not_inside x r)
    out_alone x (twice_listed {first = c} a e) = absurd (unlisted c a)
    out_alone x (outside body b) = subst (λ (l : List Ident). Bears top l at x) (sym same) b

    pub of_body : (o : Option (Bor Name)) → has_body d ≡ true → FoundName (Bears top names at) o →
        FoundName (IsDeclaredIn top d at) o
    of_body o body found =
        found_alike (Bears top names at) (IsDeclaredIn top d at) o
        (λ x b. outside body (subst (λ (l : List Ident). Bears top l at x) same b)) out_alone found

    pub of_no_body : has_body d ≡ false → (x : Ident) → IsDeclaredIn top d at x → ⊥
    of_no_body bare x (inside r) = not_inside x r
    of_no_body bare x (twice_listed {first = c} a e) = absurd (unlisted c a)
    of_no_body bare x (outside body b) = absurd cc

-- a name that is repeated neither at the top nor in a declaration is not declared twice
pub not_declared : (decls : List Decl) (at : ℕ) → ((x : Ident) → Repeats (top_names decls) at x → ⊥) →
    ((k : ℕ) (d : Decl) → slice_get decls k ≡ Some d → (x : Ident) → IsDeclaredIn (top_names decls) d at x → ⊥) →
    (x : Ident) → IsDeclaredAs decls at x → ⊥
not_declared decls at top inner x (at_the_top r) = top x r
not_declared decls at top inner x (in_one {d = d} has is) = let k = has_at decls d has in inner k.0 d k.1 x is
