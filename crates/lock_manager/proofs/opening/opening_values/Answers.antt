use Rattle.std.proofs.Common.{◌≡◌, ◌∙◌, length, sym, ap, arith}
use Rattle.std.proofs.lemmas.List.{length-map, take_all}
use Rattle.core_lang.specs.declared.typed.Cell.{Cell}
use Rattle.layout.specs.Layouts.{LayoutOf}
use Rattle.lock_manager.specs.Working.Managers.{IsLayout}
use Rattle.lock_manager.proofs.Lists.{one_more_taken}
use Rattle.lock_manager.proofs.opening.opening_values.Goals as goal

-- each cell has a value to begin with
one_each : (layout : LayoutOf) → IsLayout layout → length layout.opening ≡ length layout.cell_locks
one_each layout is = ap length is.1.opening ∙ length-map is.0.cells.items (λ (cell : Cell). cell.opening) ∙ sym is.1.cells

pub opening-requires : goal.opening-requires
opening-requires c = omega (arith, one_each c.args.layout.now c.requires, c.loop-cell-test.true, c.cells_count-cell-end.ensures)

pub loop-cell-preserved : goal.loop-cell-preserved
loop-cell-preserved c =
    one_more_taken c.args.layout.now.opening c.loop-cell.cell c.opening.result c.loop-cell.values.items c.push.new.self.items c.opening.ensures c.loop-cell.invariant c.in_ok-push.ensures.items

pub returns : goal.returns
returns c =
    c.loop-cell.invariant
    ∙ take_all c.loop-cell.cell c.args.layout.now.opening (omega (arith, one_each c.args.layout.now c.requires, c.loop-cell-test.false, c.cells_count-cell-end.ensures))
