-- The bodies of a tree.
use Rattle.std.specs.Prelude.{List}
use Rattle.syntax.specs.Trees.{Decl, Section}
use Rattle.core_lang_helpers.specs.Graphs.{Body}
use Rattle.resolution.specs.declared.body_limits.BodyLimits.{BodyLimits}
use Rattle.resolution.specs.Statements.{ahead_of}
use Rattle.resolution.specs.CallGraphs.{body_in, helper_bodies, section_bodies}

-- the calls and counts of all helpers
abbrev pub all_helpers : List Decl → List Body
all_helpers decls = helper_bodies decls decls

-- the calls and counts of all sections
abbrev pub all_sections : List Decl → List Body
all_sections decls = section_bodies decls decls

-- the calls and counts of a section or a helper with these limits
abbrev pub body_within : List Decl → BodyLimits → Section → Body
body_within decls limits s = body_in (ahead_of decls limits s) s
