use Rattle.std.proofs.Common.{◌≡◌, take}
use Rattle.std.specs.Prelude.{min}
use Rattle.source.specs.Texts.{value_of}
use Rattle.report_runs.proofs.bytes.capped.Given as goal

abbrev pub invariant-loop-byte : goal.invariant-loop-byte
invariant-loop-byte l = l.value ≡ min (value_of (take l.byte-index l.digits)) 9223372036854775808
