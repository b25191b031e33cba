use Rattle.std.proofs.Common.{◌≡◌, ℕ, List, drop, map}
use Rattle.std.specs.List.{list_any}
use Rattle.report_runs.specs.Names.{is_named}
use Rattle.report_runs.proofs.cell_names.is_asked.Given as goal

-- the cell is in none of the names so far
abbrev pub invariant-loop-name : goal.invariant-loop-name
invariant-loop-name l =
    list_any (λ (name : List ℕ). is_named l.program name l.cell) (map (λ name. name.now) (drop l.name-index l.names))
    ≡ list_any (λ (name : List ℕ). is_named l.program name l.cell) (map (λ name. name.now) l.names)
