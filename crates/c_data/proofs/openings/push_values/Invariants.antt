use Rattle.std.proofs.Common.{◌≡◌, ◌++◌, string_bytes, take}
use Rattle.c_data.specs.Openings.{cell_opened}
use Rattle.std.specs.List.{flat_map}
use Rattle.c_data.proofs.openings.push_values.Given as goal

abbrev pub invariant-loop-cell : goal.invariant-loop-cell
invariant-loop-cell l =
    string_bytes l.out ≡ string_bytes l.initial.out ++ flat_map (cell_opened l.program) (take l.cell-index l.program.cells.items)
