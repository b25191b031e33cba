-- The results of the passes over declarations, part by part.
use Rattle.std.specs.Prelude.{ℕ, List, ◌++◌, Option, None, option_map, option_to_list}
use Rattle.source.specs.Mistakes as mistakes
use Rattle.syntax.specs.Trees.{Decl, Variable, Array, Section, Thread}
use Rattle.resolution.specs.Core as core
use Rattle.resolution.specs.Limits.{section_limits, helper_limits}
use Rattle.resolution.specs.Scopes.{◌>>=◌}
use Rattle.resolution.specs.Working.TypedSections.{typed_section}
use Rattle.resolution.specs.Working.Building.{typed_calls}
use Rattle.resolution.specs.Working.Building.{extended, with_section, with_helper, with_thread}
use Rattle.resolution.specs.Working.Building.{global_with, array_with}
use Rattle.types.specs.Working.DeclaredValues as builder
use Rattle.core_lang_helpers.specs.Working.FaultLists.{graph_faults}
use Rattle.resolution.specs.CallGraphs.{tree_graph}
use Rattle.resolution.specs.Working.FaultLists.{each_faults}
use Rattle.resolution.specs.declared.finding.Finding.{Finding}
use Rattle.resolution.specs.Working.Findings.{plain}
use Rattle.types.specs.declared.program.Judge.{Judge}

-- the declarations, as a judge knows them
abbrev pub known : Judge → List Decl
known j = builder.known j.builder

-- the faults of each declaration, and then the least fault of the call graph
abbrev pub judged_faults : List Decl → List Finding
judged_faults decls =
    each_faults decls 0 decls ++ option_to_list (option_map plain (mistakes.least_of None (graph_faults (tree_graph decls))))

-- a program, if there is one, with one more declaration
abbrev pub extended_if : List Decl → ℕ → Option core.Program → Decl → Option core.Program
extended_if decls i p d = p >>= λ q. extended decls i q d

-- a program, if there is one, with a further global
abbrev pub global_if : List Decl → Option core.Program → Variable → Option core.Program
global_if decls p v = p >>= λ q. global_with decls q v

-- a program, if there is one, with a further array
abbrev pub array_if : List Decl → Option core.Program → Array → Option core.Program
array_if decls p a = p >>= λ q. array_with decls q a

-- a program, if there is one, with a further section
abbrev pub section_if : List Decl → Option core.Program → Section → Option core.Program
section_if decls p s = p >>= λ q. with_section q (typed_section decls section_limits s)

-- a program, if there is one, with a further helper
abbrev pub helper_if : List Decl → Option core.Program → Section → Option core.Program
helper_if decls p s = p >>= λ q. with_helper q (typed_section decls helper_limits s)

-- a program, if there is one, with a further thread
abbrev pub thread_if : List Decl → Option core.Program → Thread → Option core.Program
thread_if decls p t = p >>= λ q. with_thread q t.name.text (typed_calls decls t.items)
