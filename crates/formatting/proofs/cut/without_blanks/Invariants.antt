use Rattle.std.proofs.Common.{◌≡◌, length}
use Rattle.formatting.specs.Pieces.{trimmed}
use Rattle.formatting.proofs.cut.without_blanks.Given as goal

abbrev pub invariant-blanks : goal.invariant-blanks
invariant-blanks l = trimmed l.rest ≡ trimmed l.line

abbrev pub decreases-blanks : goal.decreases-blanks
decreases-blanks l = length l.rest
