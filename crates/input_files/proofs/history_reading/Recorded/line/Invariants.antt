use Rattle.std.proofs.Common.{◌≡◌, drop}
use Rattle.input_files.specs.Histories.{lines_in, recorded_lines}
use Rattle.input_files.proofs.history_reading.Recorded.line.Given as goal

-- the remaining lines
abbrev pub invariant-loop-passed : goal.invariant-loop-passed
invariant-loop-passed l = drop l._passed (recorded_lines l.self) ≡ lines_in l.rest
