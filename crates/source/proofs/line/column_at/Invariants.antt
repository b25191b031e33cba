use Rattle.std.proofs.Common.{◌≡◌, ◌≤◌, ◌+◌, take, not, eqb}
use Rattle.std.specs.List.{suffix_len}
use Rattle.source.proofs.line.column_at.Given as goal

abbrev pub invariant-loop-byte : goal.invariant-loop-byte
invariant-loop-byte l =
    (l.column ≡ 1 + suffix_len (λ byte. not (eqb byte 10)) (take l.byte-index l.text)) × (l.column ≤ 1 + l.byte-index)
