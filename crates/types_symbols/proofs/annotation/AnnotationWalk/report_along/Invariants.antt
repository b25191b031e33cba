use Rattle.std.proofs.Common.{◌≡◌, drop}
use Rattle.std.specs.Prelude.{map, option_map}
use Rattle.syntax.specs.Views.{ident}
use Rattle.resolution.specs.Working.Findings.{found_in}
use Rattle.resolution.specs.Working.FaultLists.{along_faults}
use Rattle.types_symbols.specs.Working.Views.{decls_of}
use Rattle.types_symbols.specs.Working.AnnotationCursors.{cursor_of}
use Rattle.types_symbols.proofs.annotation.AnnotationWalk.report_along.Given as goal

abbrev pub invariant-loop-z : goal.invariant-loop-z
invariant-loop-z l = record {
  faults : found_in l.firsts (along_faults (decls_of l.self.symbols.now) l.self.start (option_map cursor_of l.cursor) (ident l.y) (map ident (drop l.z-index l.rest))) ≡ found_in l.fn.firsts (along_faults (decls_of l.self.symbols.now) l.self.start (option_map cursor_of l.fn.cursor) (ident l.fn.first) (map ident l.rest));
}
