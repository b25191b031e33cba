-- Names that can't be where they are.
use Rattle.std.specs.Prelude.{ℕ, List}
use Rattle.source.specs.declared.fault.Code.{Code}
use Rattle.source.specs.declared.fault.Code.TheVariants.{UnknownName}
use Rattle.resolution.specs.declared.finding.Finding.{Finding}
use Rattle.syntax.specs.Trees.{Ident, Decl}
use Rattle.resolution.specs.Scopes.{Scope, Meaning, a_local, a_decl, nothing, the_local, the_decl}
use Rattle.resolution.specs.Working.FaultLists.{one, taken, unfit}

abbrev pub misplaced : List Decl → Finding → Meaning → List Finding
misplaced decls f (a_local i l) = unfit decls f (a_local i l)
misplaced decls f (a_decl i d) = unfit decls f (a_decl i d)
misplaced decls f nothing = one UnknownName f.start

-- the faults of a local's name that an earlier local or a declaration has
abbrev pub taken_name_faults : Scope → Ident → List Finding
taken_name_faults sc x = taken x.span.start (the_local sc.locals x.text) (the_decl sc.decls x.text)
