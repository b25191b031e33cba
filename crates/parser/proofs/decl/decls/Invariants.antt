use Rattle.std.proofs.Common.{◌≡◌, ◌∷◌, length}
use Rattle.source.specs.Tokens.{seen}
use Rattle.syntax.specs.Views.{decl_of}
use Rattle.parser.specs.Working.Declarations.{decls_at}
use Rattle.parser.specs.Theory.Many.{with_front}
use Rattle.parser.specs.Theory.Loops.{before}
use Rattle.parser.proofs.decl.decls.Given as goal

abbrev pub invariant-items : goal.invariant-items
invariant-items l = with_front (before ◌∷◌ decl_of l.decls.items) (decls_at l.room (seen l.rest)) ≡ decls_at l.room (seen l.tokens)

abbrev pub decreases-items : goal.decreases-items
decreases-items l = length l.rest
