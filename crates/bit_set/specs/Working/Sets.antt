-- Sets of small numbers.
use Rattle.std.specs.Prelude.{ℕ, ◌==◌, Bool}
use Rattle.std.specs.Int.{bit_at}
use Rattle.bit_set.specs.declared.set.BitSet.{BitSet}

-- the set has the number
abbrev pub has_number : BitSet → ℕ → Bool
has_number set n = bit_at set.bits n == 1
