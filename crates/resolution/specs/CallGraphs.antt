-- The calls of the sections and helpers of a tree, as a graph. A call is in it if its name refers to a helper, whatever
-- other faults it has.
use Rattle.std.specs.Prelude.{ℕ, ◌+◌, Bool, true, false, List, [], ◌∷◌, ◌++◌, length, Option, Some, None, is_some}
use Rattle.syntax.specs.Trees.{HelperCall, Stmt, let_local, let_owned, let_call, var_local, assign, if_then, while}
use Rattle.syntax.specs.Trees.{print, return_value, call, Stmts, no_stmts, stmt, Otherwise, no_else, else_do, Section}
use Rattle.syntax.specs.Trees.{Decl, atomic, helper}
use Rattle.core_lang_helpers.specs.declared.graph.CallSite.{CallSite}
use Rattle.core_lang_helpers.specs.Graphs.{Body, Graph}
use Rattle.resolution.specs.Limits.{section_limits, helper_limits}
use Rattle.resolution.specs.Scopes.{Scope, meaning, helper_meant, number_at, entered, left}
use Rattle.resolution.specs.Statements.{after, after_all}
use Rattle.resolution.specs.Statements.{ahead_of}

-- a call at this byte, of the helper that its name refers to
abbrev pub site_at : List Decl → ℕ → Bool → Option (ℕ × Section) → List CallSite
site_at decls start bound (Some (i, s)) = record { helper = number_at decls i (helper s); start = start; is_bound = bound } ∷ []
site_at decls start bound None = []

-- the call of a helper, if its name refers to one
abbrev pub call_sites : Scope → Bool → HelperCall → List CallSite
call_sites sc bound c = site_at sc.decls c.helper.span.start bound (helper_meant (meaning sc c.helper.text))

-- the calls of statements, in the order of the text
abbrev mutual
  pub stmt_calls : Scope → Stmt → List CallSite
  stmt_calls sc (let_call l) = call_sites sc true l.call
  stmt_calls sc (call start c) = call_sites sc false c
  stmt_calls sc (if_then start e body close other) = stmts_calls sc body ++ else_calls (left sc (after_all sc body)) other
  stmt_calls sc (while start e body close) = stmts_calls sc body
  stmt_calls sc _ = []

  pub else_calls : Scope → Otherwise → List CallSite
  else_calls sc no_else = []
  else_calls sc (else_do body close) = stmts_calls sc body

  pub stmts_calls : Scope → Stmts → List CallSite
  stmts_calls sc no_stmts = []
  stmts_calls sc (stmt s rest) = stmt_calls sc s ++ stmts_calls (after sc s) rest

-- the number of statements that are points by themselves: all but calls and the `return`
abbrev mutual
  pub stmt_points : Stmt → ℕ
  stmt_points (let_local l) = 1
  stmt_points (let_owned l o) = 1
  stmt_points (let_call l) = 0
  stmt_points (var_local l) = 1
  stmt_points (assign p e) = 1
  stmt_points (if_then start e body close other) = 1 + (stmts_points body + else_points other)
  stmt_points (while start e body close) = 1 + stmts_points body
  stmt_points (print start e) = 1
  stmt_points (return_value start e) = 0
  stmt_points (call start c) = 0

  pub else_points : Otherwise → ℕ
  else_points no_else = 0
  else_points (else_do body close) = stmts_points body

  pub stmts_points : Stmts → ℕ
  stmts_points no_stmts = 0
  stmts_points (stmt s rest) = stmt_points s + stmts_points rest

-- the counts and calls of a section or a helper, from the scope before its parameters
abbrev pub body_in : Scope → Section → Body
body_in sc s = record {
  start = s.name.span.start;
  parameters = length s.params;
  locals = length (after_all (entered sc s.params) s.body.stmts).locals;
  points = stmts_points s.body.stmts;
  has_result = is_some s.result;
  calls = stmts_calls (entered sc s.params) s.body.stmts;
}

-- the helpers, in the order of the text
abbrev pub helper_bodies : List Decl → List Decl → List Body
helper_bodies all [] = []
helper_bodies all (helper s ∷ ds) = body_in (ahead_of all helper_limits s) s ∷ helper_bodies all ds
helper_bodies all (d ∷ ds) = helper_bodies all ds

-- the sections
abbrev pub section_bodies : List Decl → List Decl → List Body
section_bodies all [] = []
section_bodies all (atomic s ∷ ds) = body_in (ahead_of all section_limits s) s ∷ section_bodies all ds
section_bodies all (d ∷ ds) = section_bodies all ds

-- the call graph of a program
abbrev pub tree_graph : List Decl → Graph
tree_graph decls = record { helpers = helper_bodies decls decls; sections = section_bodies decls decls }
