use Rattle.std.proofs.Common.{◌≡◌, Some}
use Rattle.std.specs.Prelude.{map}
use Rattle.syntax.specs.Views.{member_of}
use Rattle.resolution.specs.CoreViews.{core_of}
use Rattle.resolution.specs.Working.Building.{with_objects}
use Rattle.types_symbols.specs.Working.Views.{decls_of}
use Rattle.types.proofs.grown.Builder.add_objects.Given as goal

abbrev pub invariant-loop-index : goal.invariant-loop-index
invariant-loop-index l = record {
  value : Some (core_of l.program) ≡ with_objects (decls_of l.self.symbols.now) l.pool.place l.pool.number (map member_of l.pool.members.now) (Some (core_of l.fn.program)) l.index;
}
