-- Which section or helper lacks its `return`.
use Rattle.std.specs.Prelude.{◌≡◌, ℕ, List, slice_get, Option, Some, None, IsSome}
use Rattle.syntax.specs.Returns.{EndsInReturn}
use Rattle.syntax.specs.Trees.{Ident, Section, Decl, atomic, helper}

-- the section or helper that a declaration is
abbrev pub body_of : Decl → Option Section
body_of (atomic s) = Some s
body_of (helper s) = Some s
body_of _ = None

-- the section has a result, its body does not end in a `return`, and its closing brace is at this byte
pub record LacksReturn (s : Section) (at : ℕ) : Type 0 where
  pub has_result : IsSome s.result
  pub missing : EndsInReturn s.body.stmts → ⊥
  pub closes : s.body.close.start ≡ at

-- the name of a section or a helper whose `return` is missing at this byte
pub record IsLacking (decls : List Decl) (at : ℕ) (x : Ident) : Type 0 where
  pub place : ℕ
  pub decl : Decl
  pub section : Section
  pub listed : slice_get decls place ≡ Some decl
  pub body : body_of decl ≡ Some section
  pub lacks : LacksReturn section at
  pub named : section.name ≡ x
