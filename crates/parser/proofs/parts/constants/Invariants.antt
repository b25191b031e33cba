use Rattle.std.proofs.Common.{◌≡◌, ◌∷◌, length}
use Rattle.source.specs.declared.token.Sign.TheVariants.{Comma}
use Rattle.source.specs.Tokens.{seen}
use Rattle.syntax.specs.Views.{const_of}
use Rattle.parser.specs.Working.Parts.{const_at}
use Rattle.parser.specs.Working.Reading.{listed_at, after_each}
use Rattle.parser.specs.Theory.Many.{with_front}
use Rattle.parser.specs.Theory.Loops.{before}
use Rattle.parser.proofs.parts.constants.Given as goal

abbrev pub invariant-loop-after : goal.invariant-loop-after
invariant-loop-after l = with_front (before ◌∷◌ const_of l.constants.items) (after_each Comma (const_at l.room) (seen l.rest)) ≡ listed_at (const_at l.room) (seen l.tokens)

abbrev pub decreases-loop-after : goal.decreases-loop-after
decreases-loop-after l = length l.rest
