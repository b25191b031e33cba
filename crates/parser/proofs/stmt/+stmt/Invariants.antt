use Rattle.std.proofs.Common.{◌≡◌, ◌+◌, ◌*◌, length}
use Rattle.source.specs.Tokens.{seen}
use Rattle.syntax.specs.Trees.{stmt}
use Rattle.syntax.specs.Views.{stmt_of}
use Rattle.parser.specs.Working.Statements.{stmt_at, stmts_with}
use Rattle.parser.specs.Theory.Many.{with_front}
use Rattle.parser.specs.Theory.Loops.{before}
use Rattle.parser.proofs.stmt.+stmt.Given as goal

abbrev pub decreases-block : goal.decreases-block
decreases-block l = 8 * l.room

abbrev pub decreases-otherwise : goal.decreases-otherwise
decreases-otherwise l = 8 * l.room + 1

abbrev pub decreases-if_rest : goal.decreases-if_rest
decreases-if_rest l = 8 * l.room + 2

abbrev pub decreases-while_rest : goal.decreases-while_rest
decreases-while_rest l = 8 * l.room + 2

abbrev pub decreases-stmt : goal.decreases-stmt
decreases-stmt l = 8 * l.room + 3

abbrev pub decreases-stmts : goal.decreases-stmts
decreases-stmts l = 8 * l.room + 4

abbrev pub invariant-stmts-items : goal.invariant-stmts-items
invariant-stmts-items l = with_front (before stmt stmt_of l.stmts.items) (stmts_with (stmt_at l.room) (seen l.rest)) ≡ stmts_with (stmt_at l.room) (seen l.tokens)

abbrev pub decreases-stmts-items : goal.decreases-stmts-items
decreases-stmts-items l = length l.rest
