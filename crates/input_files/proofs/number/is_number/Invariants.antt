use Rattle.std.proofs.Common.{◌≡◌, take, true}
use Rattle.std.specs.List.{list_all}
use Rattle.input_files.specs.Steps.{is_digit}
use Rattle.input_files.proofs.number.is_number.Given as goal

abbrev pub invariant-loop-byte : goal.invariant-loop-byte
invariant-loop-byte l = list_all is_digit (take l.byte-index l.bytes) ≡ true
