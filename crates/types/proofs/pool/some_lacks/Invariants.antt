use Rattle.std.proofs.Common.{◌≡◌, false}
use Rattle.resolution.specs.Working.FaultLists.{some_lacks}
use Rattle.types_symbols.specs.Working.Views.{decls_of}
use Rattle.types.proofs.pool.some_lacks.Given as goal

abbrev pub invariant-loop-index : goal.invariant-loop-index
invariant-loop-index l = record {
  none : some_lacks (decls_of l.symbols) l.pool l.member l.index ≡ false;
}
