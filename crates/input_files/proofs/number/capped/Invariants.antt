use Rattle.std.proofs.Common.{◌≡◌, take}
use Rattle.std.specs.Prelude.{min}
use Rattle.input_files.specs.Steps.{value_of}
use Rattle.input_files.proofs.number.capped.Given as goal

abbrev pub invariant-loop-byte : goal.invariant-loop-byte
invariant-loop-byte l = l.value ≡ min (value_of (take l.byte-index l.bytes)) 100000000000
