-- The model of a walk over statements.
use Rattle.std.specs.Prelude.{◌≡◌, ◌++◌, ℕ, List, Option, Some, None}
use Rattle.core_lang_helpers.specs.declared.graph.CallSite.{CallSite}
use Rattle.syntax.specs.Trees.{Decl, helper, Stmts}
use Rattle.resolution.specs.Scopes.{Scope, Meaning, a_decl, number_at, left}
use Rattle.resolution.specs.Statements.{after_all}
use Rattle.types_symbols.specs.{decls_of, KnownLocals, scope_of}
use Rattle.types.specs.declared.call_walk.Reader.{Reader}
use Rattle.types.specs.declared.call_walk.Walk.{Walk}

-- the scope with these locals
abbrev pub scope_at : Reader → KnownLocals → Scope
scope_at reader locals = scope_of (decls_of reader.symbols.now) locals

-- the number of the helper that a name refers to
abbrev pub number_meant : List Decl → Meaning → Option ℕ
number_meant decls (a_decl i (helper s)) = Some (number_at decls i (helper s))
number_meant decls _ = None

abbrev pub behind_block : Scope → Stmts → Scope
behind_block sc body = left sc (after_all sc body)

-- the scope of the new locals is that of the old ones after `go`
abbrev pub Leads : Reader → KnownLocals → KnownLocals → (Scope → Scope) → Type 0
Leads reader old new go = scope_at reader new ≡ go (scope_at reader old)

-- these calls were appended in a walk
abbrev pub AddsCalls : Reader → Walk → Walk → (Scope → List CallSite) → Type 0
AddsCalls reader old new calls = new.calls.items ≡ old.calls.items ++ calls (scope_at reader old.locals)
