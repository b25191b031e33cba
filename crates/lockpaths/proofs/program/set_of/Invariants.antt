use Rattle.std.proofs.Common.{◌≡◌, ℕ, ◌||◌, drop}
use Rattle.locks.specs.Sets.{has}
use Rattle.lockpaths.specs.Working.Numbers.{is_number}
use Rattle.lockpaths.proofs.program.set_of.Given as goal

abbrev pub invariant-loop-number : goal.invariant-loop-number
invariant-loop-number l = (i : ℕ) → (has l.set i || is_number i (drop l.number-index l.numbers)) ≡ is_number i l.numbers
