use Rattle.std.proofs.Common.{◌≡◌, ◌++◌, string_bytes, take}
use Rattle.std.specs.List.{flat_map}
use Rattle.c_data.specs.Working.Shown.{cell_of}
use Rattle.c_data.proofs.writer.DataWriter.push_all_cells.Given as goal

abbrev pub invariant-loop-cell : goal.invariant-loop-cell
invariant-loop-cell l =
    string_bytes l.out ≡ string_bytes l.initial.out ++ flat_map (cell_of l.self) (take l.cell-index l.self.names.program.now.cells.items)
