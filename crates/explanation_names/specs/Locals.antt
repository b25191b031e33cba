-- The locals in scope at a statement.
use Rattle.std.specs.Prelude.{List, [], ◌∷◌, ◌++◌, map}
use Rattle.resolution.specs.Where.{Has}
use Rattle.source.specs.declared.span.Span.{Span}
use Rattle.syntax.specs.Trees.{Ident, ValueType, Expr, Stmt, let_local, let_owned, let_call, var_local, if_then}
use Rattle.syntax.specs.Trees.{while, Stmts, stmt, Otherwise, else_do, Param, Section, Decl, atomic, helper}

-- a local with its type
pub record LocalInScope : Type 0 where
  pub name : Ident
  pub value_type : ValueType

-- a parameter with its type
abbrev pub param_in_scope : Param → LocalInScope
param_in_scope p = record { name = p.name; value_type = p.value_type }

-- the local that a statement declares, if it declares one
abbrev pub declared_by : Stmt → List LocalInScope
declared_by (let_local l) = record { name = l.name; value_type = l.value_type } ∷ []
declared_by (let_owned l o) = record { name = l.name; value_type = l.value_type } ∷ []
declared_by (let_call l) = record { name = l.name; value_type = l.value_type } ∷ []
declared_by (var_local l) = record { name = l.name; value_type = l.value_type } ∷ []
declared_by _ = []

-- a statement stands among statements with these locals in scope before it, given those in scope before the first: a
-- local is in scope in the statements after its own, up to the end of its block
pub data Stands : List LocalInScope → Stmts → List LocalInScope → Stmt → Type 0 where
  here : {xs : List LocalInScope} {s : Stmt} {rest : Stmts} → Stands xs (stmt s rest) xs s
  later : {xs ys : List LocalInScope} {s t : Stmt} {rest : Stmts} →
      Stands (xs ++ declared_by s) rest ys t → Stands xs (stmt s rest) ys t
  in_then : {xs ys : List LocalInScope} {t : Stmt} {start close : Span} {e : Expr} {body rest : Stmts} {other : Otherwise} →
      Stands xs body ys t → Stands xs (stmt (if_then start e body close other) rest) ys t
  in_else : {xs ys : List LocalInScope} {t : Stmt} {start close end : Span} {e : Expr} {body other rest : Stmts} →
      Stands xs other ys t → Stands xs (stmt (if_then start e body close (else_do other end)) rest) ys t
  in_while : {xs ys : List LocalInScope} {t : Stmt} {start close : Span} {e : Expr} {body rest : Stmts} →
      Stands xs body ys t → Stands xs (stmt (while start e body close) rest) ys t

-- a section or a helper of the program
pub data HasBody (decls : List Decl) : Section → Type 0 where
  of_section : {s : Section} → Has decls (atomic s) → HasBody decls s
  of_helper : {s : Section} → Has decls (helper s) → HasBody decls s

-- a statement of the program, with the locals in scope there
pub data HasStmt (decls : List Decl) : List LocalInScope → Stmt → Type 0 where
  in_body : {s : Section} {xs : List LocalInScope} {t : Stmt} →
      HasBody decls s → Stands (map param_in_scope s.params) s.body.stmts xs t → HasStmt decls xs t
