-- The program whose names a lister shows.
use Rattle.core_lang.specs.declared.typed.Typed.{Typed}
use Rattle.code.specs.declared.lines.Lister.{Lister}

abbrev pub program_of : Lister → Typed
program_of lister = lister.program.now
