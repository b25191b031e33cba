use Rattle.std.proofs.Common.{◌≡◌, ◌<◌, ℕ, get_or, eqb, false}
use Rattle.input_files.proofs.piece.place_of.Given as goal

abbrev pub invariant-loop-i : goal.invariant-loop-i
invariant-loop-i l = (k : ℕ) → k < l.i → eqb (get_or l.text k 0) l.byte ≡ false
