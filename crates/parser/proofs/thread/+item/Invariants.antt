use Rattle.std.proofs.Common.{◌≡◌, ◌+◌, ◌*◌, length}
use Rattle.source.specs.Tokens.{seen}
use Rattle.syntax.specs.Trees.{item}
use Rattle.syntax.specs.Views.{item_of}
use Rattle.parser.specs.Working.Declarations.{item_at, items_with}
use Rattle.parser.specs.Theory.Many.{with_front}
use Rattle.parser.specs.Theory.Loops.{before}
use Rattle.parser.proofs.thread.+item.Given as goal

abbrev pub decreases-repeat : goal.decreases-repeat
decreases-repeat l = 4 * l.room

abbrev pub decreases-item : goal.decreases-item
decreases-item l = 4 * l.room + 1

abbrev pub decreases-items : goal.decreases-items
decreases-items l = 4 * l.room + 2

abbrev pub invariant-items-items : goal.invariant-items-items
invariant-items-items l = with_front (before item item_of l.items.items) (items_with (item_at l.room) (seen l.rest)) ≡ items_with (item_at l.room) (seen l.tokens)

abbrev pub decreases-items-items : goal.decreases-items-items
decreases-items-items l = length l.rest
