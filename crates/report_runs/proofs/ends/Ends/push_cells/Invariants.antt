use Rattle.std.proofs.Common.{◌≡◌, ◌++◌, string_bytes, drop}
use Rattle.report_runs.specs.Outcomes.{cell_texts}
use Rattle.report_runs.proofs.ends.Ends.push_cells.Given as goal

-- the written text and that of the remaining items are the whole text
abbrev pub invariant-loop-place : goal.invariant-loop-place
invariant-loop-place l =
    string_bytes l.out ++ cell_texts l.self.program.now l.self.asked.now.cells l.known l.place (drop l.place l.values)
    ≡ string_bytes l.initial.out ++ cell_texts l.self.program.now l.self.asked.now.cells l.known 0 l.values
