use Rattle.std.proofs.Common.{◌≡◌, drop, Some}
use Rattle.syntax.specs.Views.{items_of}
use Rattle.resolution.specs.Working.Building.{joined, typed_items}
use Rattle.types_symbols.specs.Working.Views.{decls_of}
use Rattle.types.specs.Working.ConstantValues.{cores}
use Rattle.types.proofs.thread.+typed.Given as goal

abbrev pub invariant-add_items-loop-item : goal.invariant-add_items-loop-item
invariant-add_items-loop-item l = record {
  value : joined (Some (cores l.calls.items)) (typed_items (decls_of l.symbols) (items_of (drop l.item-index l.items))) ≡ joined (Some (cores l.fn.calls.items)) (typed_items (decls_of l.symbols) (items_of l.items));
}
