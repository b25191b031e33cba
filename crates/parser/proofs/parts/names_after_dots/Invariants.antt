use Rattle.std.proofs.Common.{◌≡◌, ◌∷◌, length}
use Rattle.source.specs.declared.token.Sign.TheVariants.{Dot}
use Rattle.source.specs.Tokens.{seen}
use Rattle.syntax.specs.Views.{ident}
use Rattle.parser.specs.Working.Reading.{name_at, after_each}
use Rattle.parser.specs.Theory.Many.{with_front}
use Rattle.parser.specs.Theory.Loops.{before}
use Rattle.parser.proofs.parts.names_after_dots.Given as goal

abbrev pub invariant-loop-after : goal.invariant-loop-after
invariant-loop-after l = with_front (before ◌∷◌ ident l.names.items) (after_each Dot name_at (seen l.rest)) ≡ after_each Dot name_at (seen l.tokens)

abbrev pub decreases-loop-after : goal.decreases-loop-after
decreases-loop-after l = length l.rest
