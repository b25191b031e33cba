use Rattle.std.proofs.Common.{◌≡◌, ◌++◌, drop, map}
use Rattle.report_runs.specs.Names.{numbers_from}
use Rattle.report_runs.proofs.cell_names.numbers_of.Given as goal

-- the numbers so far and those of the remaining cells are all numbers
abbrev pub invariant-loop-number : goal.invariant-loop-number
invariant-loop-number l =
    l.numbers.items ++ numbers_from l.program (map (λ name. name.now) l.names) l.number (drop l.number l.program.cells.items)
    ≡ numbers_from l.program (map (λ name. name.now) l.names) 0 l.program.cells.items
