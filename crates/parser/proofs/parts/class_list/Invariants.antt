use Rattle.std.proofs.Common.{◌≡◌, ◌∷◌, length}
use Rattle.source.specs.declared.token.Sign.TheVariants.{Comma}
use Rattle.source.specs.Tokens.{seen}
use Rattle.syntax.specs.Views.{class_name_of}
use Rattle.parser.specs.Working.Reading.{after_each}
use Rattle.parser.specs.Working.Parts.{class_at, class_list_at}
use Rattle.parser.specs.Theory.Many.{with_front}
use Rattle.parser.specs.Theory.Loops.{before}
use Rattle.parser.proofs.parts.class_list.Given as goal

abbrev pub invariant-loop-after : goal.invariant-loop-after
invariant-loop-after l = with_front (before ◌∷◌ class_name_of l.classes.items) (after_each Comma class_at (seen l.rest)) ≡ class_list_at (seen l.tokens)

abbrev pub decreases-loop-after : goal.decreases-loop-after
decreases-loop-after l = length l.rest
