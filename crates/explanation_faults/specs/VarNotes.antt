-- The note on the `var` that a name is, and whether a `let` would do in its place.
use Rattle.explanation.specs.Notes.{Note}
use Rattle.std.specs.Prelude.{◌≡◌, ℕ, ◌⊎◌, IsTrue, List, slice_get, Some, codes}
use Rattle.source.specs.Tokens.{Tok}
use Rattle.syntax.specs.Trees.{Ident, Section, Decl}
use Rattle.explanation_names.specs.TokensThere.{token_at, name_of, has_two_fields}
use Rattle.explanation_names.specs.Vars.{all_of, IsIn, IsVar, IsAssigned}
use Rattle.explanation_faults.specs.Words.{name_note}

-- E13, at the name of the `var`
abbrev pub var_note : Ident → Note
var_note x = name_note x (codes " is a var, declared here")

-- E13, at the name of the `var`, if nothing assigns it and at most one field comes after it
abbrev pub fixed_note : Ident → Note
fixed_note x = name_note x (codes " is a var, declared here, and never assigned: a let would do")

-- the name at this byte is that of a `var`, the first of its section
pub record IsVarThere (tokens : List Tok) (decls : List Decl) (at : ℕ) (x : Ident) : Type 0 where
  pub i : ℕ
  pub q : List ℕ
  pub section : Section
  pub token : token_at at tokens ≡ Some i
  pub named : name_of (slice_get tokens i) ≡ Some q
  pub inside : IsIn decls at section
  pub is_var : IsVar (all_of section.body.stmts) q x

-- the `var` is the base of two fields or more, or a statement of its section assigns it
abbrev pub IsNeeded : (tokens : List Tok) (decls : List Decl) (at : ℕ) (x : Ident) → IsVarThere tokens decls at x →
    Type 0
IsNeeded tokens decls at x v = IsTrue (has_two_fields v.i tokens) ⊎ IsAssigned (all_of v.section.body.stmts) v.q

-- the note that it is a `var`, and, if that is not needed, that a `let` would do
pub data IsVarNote (tokens : List Tok) (decls : List Decl) (at : ℕ) : Note → Type 0 where
  needed : {x : Ident} (v : IsVarThere tokens decls at x) → IsNeeded tokens decls at x v →
      IsVarNote tokens decls at (var_note x)
  not_needed : {x : Ident} (v : IsVarThere tokens decls at x) → (IsNeeded tokens decls at x v → ⊥) →
      IsVarNote tokens decls at (fixed_note x)
