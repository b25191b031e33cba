use Rattle.std.proofs.Common.{◌≡◌, take, true}
use Rattle.std.specs.List.{list_all}
use Rattle.source.specs.Texts.{is_name_byte}
use Rattle.input_files.proofs.piece.are_name_bytes.Given as goal

abbrev pub invariant-loop-b : goal.invariant-loop-b
invariant-loop-b l = list_all is_name_byte (take l.b-index l.text) ≡ true
