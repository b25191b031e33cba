-- Which program a tree stands for.
use Rattle.std.specs.Prelude.{List}
use Rattle.syntax.specs.Trees.{Decl}
use Rattle.core_lang.specs.declared.typed.Typed.{Typed}
use Rattle.resolution.specs.CoreViews.{core_of}
use Rattle.resolution.specs.Tables.{AreTables}

-- the program is the tree with each name replaced by the number of what it refers to, and every expression typed
abbrev pub Resolves : List Decl → Typed → Type 0
Resolves tree program = AreTables tree (core_of program)
