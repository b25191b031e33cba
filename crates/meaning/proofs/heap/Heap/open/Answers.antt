use Rattle.std.proofs.Common.{ap, ◌∙◌, length}
use lib.ListN.{length-map}
use Rattle.core_lang.specs.declared.typed.Cell.{Cell}
use Rattle.meaning.proofs.Opened.{opened_more, opened}
use Rattle.meaning.proofs.heap.Heap.open.Goals as goal

pub loop-cell-preserved : goal.loop-cell-preserved
loop-cell-preserved c =
    opened_more c.args.program.now.cells.items c.deref-cell-items.result.now c.loop-cell.cell-index _ c.loop-cell.cells.items c.push.new.self.items
    c.deref-cell-items.ensures.value c.loop-cell-test.true c.loop-cell.invariant c.in_ok-push.ensures.items

pub returns-clause-opens : goal.returns-clause-opens
returns-clause-opens c =
    opened c.args.program.now.cells.items c.deref-cell-items.result.now c.loop-cell.cell-index c.loop-cell.cells.items
    c.deref-cell-items.ensures.value c.loop-cell-test.false c.loop-cell.invariant

pub returns-clause-cells : goal.returns-clause-cells
returns-clause-cells c =
    ap length
    (opened c.args.program.now.cells.items c.deref-cell-items.result.now c.loop-cell.cell-index c.loop-cell.cells.items
    c.deref-cell-items.ensures.value c.loop-cell-test.false c.loop-cell.invariant)
    ∙ length-map c.args.program.now.cells.items (λ (cell : Cell). cell.opening)
