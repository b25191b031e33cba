use Rattle.std.proofs.Common.{◌≡◌, drop, map}
use Rattle.std.specs.List.{list_all}
use Rattle.report_runs.specs.ExpectationCells.{is_numeric, first_bad}
use Rattle.report_runs.proofs.expectation_names.bad_among.Given as goal

-- the names so far stand for numbers
abbrev pub invariant-loop-name : goal.invariant-loop-name
invariant-loop-name l =
    (list_all (is_numeric l.program) (map (λ name. name.now) (drop l.name-index l.names))
    ≡ list_all (is_numeric l.program) (map (λ name. name.now) l.names))
    × (first_bad l.program (map (λ name. name.now) (drop l.name-index l.names)) ≡ first_bad l.program (map (λ name. name.now) l.names))
