use Rattle.std.proofs.Common.{◌≡◌, drop}
use Rattle.std.specs.List.{list_any}
use Rattle.report_runs.specs.Names.{is_named, is_known}
use Rattle.report_runs.proofs.cell_names.is_known.Given as goal

-- none of the cells so far has the name
abbrev pub invariant-loop-cell : goal.invariant-loop-cell
invariant-loop-cell l = list_any (is_named l.program l.name) (drop l.cell-index l.program.cells.items) ≡ is_known l.program l.name
