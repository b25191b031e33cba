use Rattle.std.proofs.Common.{◌≡◌, take}
use Rattle.std.specs.Prelude.{min}
use Rattle.source.specs.Texts.{value_of}
use Rattle.input_files.proofs.piece.capped.Given as goal

abbrev pub invariant-loop-b : goal.invariant-loop-b
invariant-loop-b l = l.value ≡ min (value_of (take l.b-index l.text)) 9223372036854775809
