use Rattle.std.proofs.Common.{◌≡◌, map, take}
use Rattle.core_lang.specs.declared.typed.Cell.{Cell}
use Rattle.meaning.proofs.heap.Heap.open.Given as goal

abbrev pub invariant-loop-cell : goal.invariant-loop-cell
invariant-loop-cell l = l.cells.items ≡ map (λ (cell : Cell). cell.opening) (take l.cell-index l.program.cells.items)
