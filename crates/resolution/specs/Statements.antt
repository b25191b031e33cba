-- The scopes in a section or a helper, and the targets of assignments.
use Rattle.std.specs.Prelude.{Bool, true, false, List, []}
use Rattle.syntax.specs.Trees.{Ident, Place, lone, element, path, Stmt, let_local, let_owned, let_call, var_local}
use Rattle.syntax.specs.Trees.{assign, if_then, while, print, return_value, call, Stmts, no_stmts, stmt, Otherwise}
use Rattle.syntax.specs.Trees.{no_else, else_do, Section, Decl}
use Rattle.core_lang.specs.declared.tree.LocalKind.{LocalKind}
use Rattle.core_lang.specs.declared.tree.LocalKind.TheVariants.{Parameter, Let, Var}
use Rattle.resolution.specs.Scopes.{Scope, entered, type_of, result_of, bound, left}
use Rattle.resolution.specs.declared.body_limits.BodyLimits.{BodyLimits}

-- ---- the left side of an assignment

-- the local is a `var`
abbrev pub is_var : LocalKind → Bool
is_var Var = true
is_var Let = false
is_var Parameter = false

-- the first name of a place
abbrev pub first_name : Place → Ident
first_name (lone x) = x
first_name (element x e) = x
first_name (path x fs) = x

-- ---- scopes

-- the scope before the parameters of a section or a helper
abbrev pub ahead_of : List Decl → BodyLimits → Section → Scope
ahead_of decls limits s = record { decls = decls; locals = []; result = result_of decls s; limits = limits }

-- the scope at its first statement
abbrev pub entry : List Decl → BodyLimits → Section → Scope
entry decls limits s = entered (ahead_of decls limits s) s.params

abbrev mutual
  -- the scope after a statement
  pub after : Scope → Stmt → Scope
  after sc (let_local l) = bound sc Let l.name (type_of sc l.value_type)
  after sc (let_owned l o) = bound sc Let l.name (type_of sc l.value_type)
  after sc (let_call l) = bound sc Let l.name (type_of sc l.value_type)
  after sc (var_local l) = bound sc Var l.name (type_of sc l.value_type)
  after sc (assign p e) = sc
  after sc (if_then start e body close other) = after_else (left sc (after_all sc body)) other
  after sc (while start e body close) = left sc (after_all sc body)
  after sc (print start e) = sc
  after sc (return_value start e) = sc
  after sc (call start c) = sc

  -- the scope after an otherwise part
  pub after_else : Scope → Otherwise → Scope
  after_else sc no_else = sc
  after_else sc (else_do body close) = left sc (after_all sc body)

  -- the scope after statements
  pub after_all : Scope → Stmts → Scope
  after_all sc no_stmts = sc
  after_all sc (stmt s rest) = after_all (after sc s) rest
