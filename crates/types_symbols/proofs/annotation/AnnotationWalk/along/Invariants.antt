use Rattle.std.proofs.Common.{◌≡◌, drop}
use Rattle.std.specs.Prelude.{map, option_map}
use Rattle.syntax.specs.Views.{ident}
use Rattle.resolution.specs.Annotations.{along}
use Rattle.types_symbols.specs.Working.Views.{decls_of}
use Rattle.types_symbols.specs.Working.AnnotationCursors.{cursor_of}
use Rattle.types_symbols.proofs.annotation.AnnotationWalk.along.Given as goal

abbrev pub invariant-loop-z : goal.invariant-loop-z
invariant-loop-z l = record {
  value : along (decls_of l.self.symbols.now) (option_map cursor_of l.cursor) (ident l.y) (map ident (drop l.z-index l.rest)) ≡ along (decls_of l.self.symbols.now) (option_map cursor_of l.fn.cursor) (ident l.fn.first) (map ident l.rest);
}
