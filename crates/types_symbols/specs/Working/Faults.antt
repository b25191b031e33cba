-- The faults of declarations that their tables show.
use Rattle.std.specs.Prelude.{List, [], ◌++◌}
use Rattle.resolution.specs.declared.finding.Finding.{Finding}
use Rattle.syntax.specs.Trees.{Decl}
use Rattle.resolution.specs.Working.FaultLists.{twice_faults, struct_faults, total_faults, repeated_faults}

-- the faults of names of declarations and of members that are declared twice
abbrev pub name_faults : List Decl → List Finding
name_faults decls = twice_faults [] decls ++ struct_faults decls

-- the faults of repeated names, exceeded limits and repeated `init`s
abbrev pub table_faults : List Decl → List Finding
table_faults decls = name_faults decls ++ total_faults decls [] decls ++ repeated_faults decls [] decls
