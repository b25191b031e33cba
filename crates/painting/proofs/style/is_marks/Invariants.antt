use Rattle.std.proofs.Common.{◌≡◌, take, true}
use Rattle.std.specs.Prelude.{◌==◌, ◌||◌}
use Rattle.std.specs.List.{list_all}
use Rattle.painting.specs.Painted.{is_space}
use Rattle.painting.proofs.style.is_marks.Given as goal

abbrev pub invariant-loop-byte : goal.invariant-loop-byte
invariant-loop-byte l = list_all (λ byte. is_space byte || (byte == 94)) (take l.byte-index l.line) ≡ true
