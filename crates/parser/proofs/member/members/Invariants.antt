use Rattle.std.proofs.Common.{◌≡◌, ◌∷◌, length}
use Rattle.source.specs.Tokens.{seen}
use Rattle.syntax.specs.Views.{member_of}
use Rattle.parser.specs.Working.Declarations.{member_at, members_with}
use Rattle.parser.specs.Theory.Many.{with_front}
use Rattle.parser.specs.Theory.Loops.{before}
use Rattle.parser.proofs.member.members.Given as goal

abbrev pub invariant-items : goal.invariant-items
invariant-items l = with_front (before ◌∷◌ member_of l.members.items) (members_with (member_at l.room) (seen l.rest)) ≡ members_with (member_at l.room) (seen l.tokens)

abbrev pub decreases-items : goal.decreases-items
decreases-items l = length l.rest
