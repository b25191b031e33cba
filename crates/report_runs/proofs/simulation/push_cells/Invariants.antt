use Rattle.std.proofs.Common.{◌≡◌, ◌++◌, string_bytes, drop}
use Rattle.report_runs.specs.Simulation.{present_texts}
use Rattle.report_runs.proofs.simulation.push_cells.Given as goal

-- the written text and that of the remaining items are the whole text
abbrev pub invariant-loop-number : goal.invariant-loop-number
invariant-loop-number l =
    string_bytes l.out ++ present_texts l.world.plan.program l.world.world l.number (drop l.number l.world.plan.program.cells.items)
    ≡ string_bytes l.initial.out ++ present_texts l.world.plan.program l.world.world 0 l.world.plan.program.cells.items
