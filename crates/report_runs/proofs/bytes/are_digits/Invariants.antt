use Rattle.std.proofs.Common.{◌≡◌, take, true}
use Rattle.std.specs.List.{list_all}
use Rattle.source.specs.Texts.{is_digit}
use Rattle.report_runs.proofs.bytes.are_digits.Given as goal

abbrev pub invariant-loop-byte : goal.invariant-loop-byte
invariant-loop-byte l = list_all is_digit (take l.byte-index l.word) ≡ true
