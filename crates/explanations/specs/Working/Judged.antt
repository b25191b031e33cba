-- What a program and what is warned of in it are, in the words of the definitions.
use Rattle.explanation.specs.Warnings.{Warning, warning_of}
use Rattle.explanation.specs.declared.warning.Warning as written_warning
use Rattle.std.proofs.Common.{Global, Vec}
use Rattle.std.specs.List.{flat_map}
use Rattle.std.specs.Prelude.{◌≡◌, ℕ, ◌++◌, List, map}
use Rattle.syntax.specs.Trees.{Ident, Decl}
use Rattle.syntax.specs.Views.{expr_of, member_of, stmts_of}
use Rattle.syntax.specs.declared.tree.Member as written_member
use Rattle.syntax.specs.declared.tree.While as written_while
use Rattle.types_symbols.specs.Working.Views.{decls_of}
use Rattle.explanations.specs.Names.{cell_names}
use Rattle.explanations.specs.Warnings.{Subject, a_loop, own_locks}
use Rattle.explanations.specs.Working.Found.{warned}
use Rattle.explanations.specs.declared.program.Program.{Program}

abbrev pub decls_in : Program → List Decl
decls_in program = decls_of program.symbols

abbrev pub cells_of : Program → List Ident
cells_of program = flat_map cell_names (decls_in program)

abbrev pub own_locks_of : Program → ℕ → List written_member.Member → List Subject
own_locks_of program place ms = own_locks (decls_in program) place 0 (map member_of ms)

abbrev pub loop_of : written_while.While → Subject
loop_of w = a_loop w.start (expr_of w.condition) (stmts_of w.block.stmts.items)

-- ---- warnings

abbrev pub warnings_seen : List written_warning.Warning → List Warning
warnings_seen ws = map warning_of ws

-- the warnings after are those before, and these
abbrev pub Adds : List Warning → Vec written_warning.Warning Global → Vec written_warning.Warning Global → Type 0
Adds warnings before after = warnings_seen after.items ≡ warnings_seen before.items ++ warnings

abbrev pub AddsWarnings : Program → List Subject → Vec written_warning.Warning Global → Vec written_warning.Warning Global → Type 0
AddsWarnings program subjects before after = warnings_seen after.items ≡ warnings_seen before.items ++ warned (decls_in program) subjects
