use Rattle.std.proofs.Common.{◌≡◌, ◌++◌, string_bytes, drop}
use Rattle.report.specs.History.{cell_texts}
use Rattle.report.proofs.histories.push_cells.Given as goal

-- the written text and that of the remaining items are the whole text
abbrev pub invariant-loop-i : goal.invariant-loop-i
invariant-loop-i l =
    string_bytes l.out ++ cell_texts l.program (drop l.i l.cells) (drop l.i l.values)
    ≡ string_bytes l.initial.out ++ cell_texts l.program l.cells l.values
