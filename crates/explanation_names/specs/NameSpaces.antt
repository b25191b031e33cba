-- The names that must differ from each other, and which of two equal ones is declared first.
use Rattle.std.specs.Prelude.{◌≡◌, ℕ, Bool, true, List, [], ◌∷◌, ◌++◌, map, take, slice_get, Option, Some, None}
use Rattle.std.specs.Str.{bytes_eq}
use Rattle.syntax.specs.Trees.{Ident, Stmt, let_local, let_owned, let_call, var_local, assign, if_then, while, print}
use Rattle.syntax.specs.Trees.{return_value, call, Stmts, no_stmts, stmt, Otherwise, no_else, else_do, Param}
use Rattle.syntax.specs.Trees.{ClassName, Section, Decl, struct, atomic, helper}
use Rattle.resolution.specs.Scopes.{place_of, declared, has_body, member_name, same_class}
use Rattle.resolution.specs.Where.{Has}

-- ---- names that must differ

-- the name, if there is one, before others
abbrev pub with_name : Option Ident → List Ident → List Ident
with_name (Some x) xs = x ∷ xs
with_name None xs = xs

-- the names of the top level
abbrev pub top_names : List Decl → List Ident
top_names [] = []
top_names (d ∷ ds) = with_name (declared d) (top_names ds)

abbrev mutual
  -- the names that a statement and its blocks bind, in the order of the text
  pub bound_names : Stmt → List Ident
  bound_names (let_local l) = l.name ∷ []
  bound_names (let_owned l o) = l.name ∷ []
  bound_names (let_call l) = l.name ∷ []
  bound_names (var_local l) = l.name ∷ []
  bound_names (assign p e) = []
  bound_names (if_then start e body close other) = names_among body ++ names_in_else other
  bound_names (while start e body close) = names_among body
  bound_names (print start e) = []
  bound_names (return_value start e) = []
  bound_names (call start c) = []

  -- the names that an otherwise part binds
  pub names_in_else : Otherwise → List Ident
  names_in_else no_else = []
  names_in_else (else_do body close) = names_among body

  -- the names that statements bind
  pub names_among : Stmts → List Ident
  names_among no_stmts = []
  names_among (stmt s rest) = bound_names s ++ names_among rest

-- the names of the parameters and locals of a section or a helper
abbrev pub local_names : Section → List Ident
local_names s = map (λ (p : Param). p.name) s.params ++ names_among s.body.stmts

-- the names inside a declaration: the members of a struct, the locals of a section or a helper
abbrev pub inner_names : Decl → List Ident
inner_names (struct s) = map member_name s.members
inner_names (atomic s) = local_names s
inner_names (helper s) = local_names s
inner_names _ = []

-- the lock classes that a section or a helper lists
abbrev pub classes_in : Decl → List ClassName
classes_in (atomic s) = s.listed
classes_in (helper s) = s.listed
classes_in _ = []

-- ---- the first

-- the name has this text
abbrev pub ident_bears : Ident → List ℕ → Bool
ident_bears x q = bytes_eq q x.text

-- a name of the list starts at this byte, and x is the first equal name before it
pub record Repeats (names : List Ident) (at : ℕ) (x : Ident) : Type 0 where
  pub place : ℕ
  pub name : Ident
  pub listed : slice_get names place ≡ Some name
  pub starts : name.span.start ≡ at
  pub first : ℕ
  pub found : place_of ident_bears (take place names) name.text ≡ Some first
  pub is_first : slice_get names first ≡ Some x

-- a name of `names` starts at this byte, and x is the first equal name of `others`
pub record Bears (others names : List Ident) (at : ℕ) (x : Ident) : Type 0 where
  pub place : ℕ
  pub name : Ident
  pub listed : slice_get names place ≡ Some name
  pub starts : name.span.start ≡ at
  pub first : ℕ
  pub found : place_of ident_bears others name.text ≡ Some first
  pub is_first : slice_get others first ≡ Some x

-- a lock class of the list starts at this byte, and `first` is the first equal one before it
pub record ListsAgain (classes : List ClassName) (at : ℕ) (first : ClassName) : Type 0 where
  pub place : ℕ
  pub class : ClassName
  pub listed : slice_get classes place ≡ Some class
  pub starts : class.structure.span.start ≡ at
  pub before : ℕ
  pub found : place_of same_class (take place classes) class ≡ Some before
  pub is_first : slice_get classes before ≡ Some first

-- a name inside a declaration starts at this byte, and x is the first equal name that it must differ from: one of the
-- others inside; for a listed lock class, the struct's name of an equal one; or, for a local, one of the top level
pub data IsDeclaredIn (top : List Ident) (d : Decl) (at : ℕ) (x : Ident) : Type 0 where
  inside : Repeats (inner_names d) at x → IsDeclaredIn top d at x
  twice_listed : {first : ClassName} → ListsAgain (classes_in d) at first → first.structure ≡ x → IsDeclaredIn top d at x
  outside : has_body d ≡ true → Bears top (inner_names d) at x → IsDeclaredIn top d at x

-- a name of the program starts at this byte, and x is the first equal name that it must differ from
pub data IsDeclaredAs (decls : List Decl) (at : ℕ) (x : Ident) : Type 0 where
  at_the_top : Repeats (top_names decls) at x → IsDeclaredAs decls at x
  in_one : {d : Decl} → Has decls d → IsDeclaredIn (top_names decls) d at x → IsDeclaredAs decls at x
