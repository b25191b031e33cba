use Rattle.std.proofs.Common.{◌≡◌, ◌∷◌, length}
use Rattle.source.specs.declared.token.Sign.TheVariants.{Comma}
use Rattle.source.specs.Tokens.{seen}
use Rattle.syntax.specs.Views.{expr_of}
use Rattle.parser.specs.Working.Expressions.{expr_at}
use Rattle.parser.specs.Working.Reading.{listed_at, after_each}
use Rattle.parser.specs.Theory.Many.{with_front}
use Rattle.parser.specs.Theory.Loops.{before}
use Rattle.parser.proofs.call.arguments.Given as goal

abbrev pub invariant-loop-after : goal.invariant-loop-after
invariant-loop-after l = with_front (before ◌∷◌ expr_of l.arguments.items) (after_each Comma (expr_at l.room) (seen l.rest)) ≡ listed_at (expr_at l.room) (seen l.tokens)

abbrev pub decreases-loop-after : goal.decreases-loop-after
decreases-loop-after l = length l.rest
