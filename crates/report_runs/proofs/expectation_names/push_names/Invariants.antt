use Rattle.std.proofs.Common.{◌≡◌, ◌++◌, take, map}
use Rattle.report_runs.specs.ExpectationTexts.{part_of}
use Rattle.report_runs.specs.ExpectationCells.{sum_names}
use Rattle.report_runs.proofs.expectation_names.push_names.Given as goal

abbrev pub invariant-loop-term : goal.invariant-loop-term
invariant-loop-term l =
    map (λ name. name.now) l.names.items
    ≡ map (λ name. name.now) l.initial.names.items ++ sum_names (map part_of (take l.term-index l.terms))
