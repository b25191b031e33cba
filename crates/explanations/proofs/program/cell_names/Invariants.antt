use Rattle.std.proofs.Common.{◌≡◌, ◌++◌, drop, map}
use Rattle.std.specs.List.{flat_map}
use Rattle.syntax.specs.Views.{decl_of}
use Rattle.explanations.specs.Names as name
use Rattle.explanations.specs.Working.Values.{idents}
use Rattle.explanations.proofs.program.cell_names.Given as goal

abbrev pub invariant-loop-decl : goal.invariant-loop-decl
invariant-loop-decl l =
    idents l.out.items ++ flat_map name.cell_names (map decl_of (drop l.decl-index l.decls)) ≡ flat_map name.cell_names (map decl_of l.decls)
