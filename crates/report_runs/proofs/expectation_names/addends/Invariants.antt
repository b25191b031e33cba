use Rattle.std.proofs.Common.{◌≡◌, take, map}
use Rattle.std.specs.List.{flat_map}
use Rattle.report_runs.specs.ExpectationTexts.{part_of}
use Rattle.report_runs.specs.ExpectationCells.{addends_of}
use Rattle.report_runs.proofs.expectation_names.addends.Given as goal

abbrev pub invariant-loop-term : goal.invariant-loop-term
invariant-loop-term l = l.addends.items ≡ flat_map (addends_of l.program) (map part_of (take l.term-index l.terms))
