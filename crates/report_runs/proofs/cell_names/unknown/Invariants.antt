use Rattle.std.proofs.Common.{◌≡◌, drop, map}
use Rattle.std.specs.List.{list_all}
use Rattle.report_runs.specs.Names.{is_known, first_unknown}
use Rattle.report_runs.proofs.cell_names.unknown.Given as goal

-- the names so far are known
abbrev pub invariant-loop-name : goal.invariant-loop-name
invariant-loop-name l =
    (list_all (is_known l.program) (map (λ name. name.now) (drop l.name-index l.names)) ≡ list_all (is_known l.program) (map (λ name. name.now) l.names))
    × (first_unknown l.program (map (λ name. name.now) (drop l.name-index l.names)) ≡ first_unknown l.program (map (λ name. name.now) l.names))
