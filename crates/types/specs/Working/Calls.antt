-- The calls of threads.
use Rattle.std.specs.Prelude.{List, Option}
use Rattle.syntax.specs.Trees.{Decl, Call}
use Rattle.resolution.specs.Core as core
use Rattle.resolution.specs.Scopes.{the_decl}
use Rattle.resolution.specs.Working.Building.{call_of, one_call}

-- the resolved call, if it has no fault
abbrev pub resolved_call : List Decl → Call → Option core.Call
resolved_call decls c = call_of decls (the_decl decls c.section.text) c.arguments

-- a list of the resolved call alone, if it has no fault
abbrev pub resolved_calls : List Decl → Call → Option (List core.Call)
resolved_calls decls c = one_call (resolved_call decls c)
