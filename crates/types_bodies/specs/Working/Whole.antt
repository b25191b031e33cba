-- A whole section, given the values of the code for its parts.
use Rattle.std.specs.Prelude.{ℕ, List, ◌++◌, Option, option_map}
use Rattle.std.proofs.Common.{Vec, Global}
use Rattle.syntax.specs.Trees.{Decl, Section}
use Rattle.core_lang.specs.declared.tree.Local as the_local
use Rattle.resolution.specs.Core as core
use Rattle.resolution.specs.CoreViews.{core_locals, core_stmts, core_return}
use Rattle.resolution.specs.declared.finding.Finding.{Finding}
use Rattle.resolution.specs.Scopes.{Scope, entered}
use Rattle.resolution.specs.Working.TypedSections.{section_with, section_of}
use Rattle.resolution.specs.Working.FaultLists.{param_faults, stmts_faults}
use Rattle.types_bodies.specs.Working.Targets.{body_of}
use Rattle.types_bodies.specs.declared.stmt.BlockChecker as the_body

-- the data of a section's locals
abbrev pub locals_of : Option (Vec the_local.Local Global) → Option (List core.Local)
locals_of v = option_map (λ ls. core_locals ls.items) v

abbrev pub section_from : List Decl → Section → Vec the_local.Local Global → Vec ℕ Global → the_body.BlockChecker →
    Option core.Section
section_from decls s locals classes body = section_with decls s (core_locals locals.items) classes.items (core_stmts body.stmts.items) s.result (option_map core_return body.result)

-- the resolved section, if none of its parts is missing
abbrev pub section_if : List Decl → Section → Option (Vec the_local.Local Global) → Option the_body.BlockChecker →
    Option core.Section
section_if decls s locals body = section_of decls s (locals_of locals) (option_map body_of body)

-- the faults of a section's parameters and statements, from the scope before the parameters
abbrev pub blamed_in : Scope → Section → List Finding
blamed_in sc s = param_faults sc 0 s.params ++ stmts_faults (entered sc s.params) s.body.stmts
