use Rattle.std.proofs.Common.{length}
use Rattle.source.specs.Tokens.{seen}
use Rattle.formatting.proofs.Steps.{Progress}
use Rattle.formatting.proofs.whole.lay_out.Given as goal

abbrev pub invariant-pieces : goal.invariant-pieces
invariant-pieces l = Progress l.text l.rest (seen l.next) l.printer.text.items l.printer.state l.printer.found

abbrev pub decreases-pieces : goal.decreases-pieces
decreases-pieces l = length l.rest
