use Rattle.std.proofs.Common.{◌≡◌, drop}
use Rattle.std.specs.Prelude.{is_some}
use Rattle.syntax.specs.Views.{items_of}
use Rattle.resolution.specs.Working.Building.{typed_items}
use Rattle.types_symbols.specs.Working.Views.{decls_of}
use Rattle.types.proofs.thread.+are.Given as goal

abbrev pub invariant-all_typed-loop-item : goal.invariant-all_typed-loop-item
invariant-all_typed-loop-item l = record {
  value : is_some (typed_items (decls_of l.symbols) (items_of (drop l.item-index l.items))) ≡ is_some (typed_items (decls_of l.symbols) (items_of l.items));
}
