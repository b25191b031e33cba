use Rattle.std.proofs.Common.{◌≡◌, drop}
use Rattle.std.specs.Prelude.{◌&&◌}
use Rattle.std.specs.List.{list_any}
use Rattle.core_lang.specs.declared.typed.Cell.{Cell}
use Rattle.report_runs.specs.Names.{is_named}
use Rattle.report_runs.specs.ExpectationCells.{is_reference, has_reference}
use Rattle.report_runs.proofs.expectation_names.has_reference.Given as goal

-- none of the cells so far has a reference
abbrev pub invariant-loop-cell : goal.invariant-loop-cell
invariant-loop-cell l =
    list_any (λ (cell : Cell). is_named l.program l.name cell && is_reference cell) (drop l.cell-index l.program.cells.items)
    ≡ has_reference l.program l.name
