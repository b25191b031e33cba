use Rattle.std.proofs.Common.{◌≡◌, ◌++◌, map, drop}
use Rattle.core_lang_helpers.specs.Graphs.{bodies_of}
use Rattle.resolution.specs.CallGraphs.{helper_bodies}
use Rattle.types_symbols.specs.Working.Views.{decls_of}
use Rattle.syntax.specs.Views.{decl_of}
use Rattle.explanation_faults.proofs.helper_limits.helper_bodies.Given as goal

abbrev pub invariant-loop-decl : goal.invariant-loop-decl
invariant-loop-decl l =
    bodies_of l.bodies.items ++ helper_bodies (decls_of l.reader.symbols.now) (map decl_of (drop l.decl-index l.decl-items))
    ≡ helper_bodies (decls_of l.reader.symbols.now) (decls_of l.reader.symbols.now)
