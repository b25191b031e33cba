use Rattle.std.proofs.Common.{◌≡◌, drop}
use Rattle.report_runs.specs.Names.{goes_on}
use Rattle.report_runs.proofs.cell_names.goes_on.Given as goal

-- the text begins with the bytes so far, and the remaining bytes of both decide
abbrev pub invariant-loop-byte : goal.invariant-loop-byte
invariant-loop-byte l = goes_on (drop l.byte-index l.name) l.rest ≡ goes_on l.name l.text
