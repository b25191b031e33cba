-- The statements of a section, which `var` a name is, and whether it is assigned.
use Rattle.std.specs.Prelude.{◌≡◌, ℕ, ◌<◌, List, [], ◌∷◌, ◌++◌, Some}
use Rattle.resolution.specs.Where.{Has}
use Rattle.syntax.specs.Trees.{Ident, lone, Expr, Local, Stmt, let_local, let_owned, let_call, var_local, assign}
use Rattle.syntax.specs.Trees.{if_then, while, print, return_value, call, Stmts, no_stmts, stmt, Otherwise, no_else}
use Rattle.syntax.specs.Trees.{else_do, Section, Decl}
use Rattle.explanation_names.specs.MissingReturns.{body_of}

-- ---- statements

abbrev mutual
  -- the statements of a statement's blocks, with those of their blocks
  pub within : Stmt → List Stmt
  within (let_local l) = []
  within (let_owned l o) = []
  within (let_call l) = []
  within (var_local l) = []
  within (assign p e) = []
  within (if_then start e body close other) = all_of body ++ behind other
  within (while start e body close) = all_of body
  within (print start e) = []
  within (return_value start e) = []
  within (call start c) = []

  -- the statements of an otherwise part
  pub behind : Otherwise → List Stmt
  behind no_else = []
  behind (else_do body close) = all_of body

  -- all statements of a block and of the blocks in it, in the order of the text
  pub all_of : Stmts → List Stmt
  all_of no_stmts = []
  all_of (stmt s rest) = s ∷ within s ++ all_of rest

-- ---- the section

-- the place is after the section's name and before its closing brace
abbrev pub Encloses : ℕ → Section → Type 0
Encloses at s = (s.name.span.start < at) × (at < s.body.close.start)

-- the first section or helper that the place is in
pub record IsIn (decls : List Decl) (at : ℕ) (s : Section) : Type 0 where
  pub before : List Decl
  pub decl : Decl
  pub behind : List Decl
  pub parts : decls ≡ before ++ decl ∷ behind
  pub body : body_of decl ≡ Some s
  pub encloses : Encloses at s
  pub none : (d : Decl) (t : Section) → Has before d → body_of d ≡ Some t → Encloses at t → ⊥

-- ---- the var

-- x is the name of the first `var` of that name
pub record IsVar (ss : List Stmt) (q : List ℕ) (x : Ident) : Type 0 where
  pub before : List Stmt
  pub local : Local
  pub behind : List Stmt
  pub parts : ss ≡ before ++ var_local local ∷ behind
  pub named : q ≡ local.name.text
  pub is : local.name ≡ x
  pub none : (l : Local) → Has before (var_local l) → q ≡ l.name.text → ⊥

-- some statement assigns to the name
pub record IsAssigned (ss : List Stmt) (q : List ℕ) : Type 0 where
  pub place : Ident
  pub value : Expr
  pub listed : Has ss (assign (lone place) value)
  pub named : q ≡ place.text
