use Rattle.std.proofs.Common.{sym}
use Rattle.source.specs.declared.token.Sign.TheVariants.{Minus, Not}
use Rattle.parser.specs.Working.Expressions.{prefix_at}
use Rattle.parser.specs.Theory.First.{mark_first}
use Rattle.parser.proofs.expr.prefix.Goals as goal

pub returns-in-Minus : goal.returns-in-Minus
unfolding prefix_at
returns-in-Minus c = sym (mark_first c.args.tokens.now c.first-item.result c.in-len1-up.len_at_least c.first-item.is c.in-Mark.span c.in-Mark.mark Minus c.in-Mark.is c.in-Minus.is prefix_at)

pub returns-in-Not : goal.returns-in-Not
unfolding prefix_at
returns-in-Not c = sym (mark_first c.args.tokens.now c.first-item.result c.in-len1-up.len_at_least c.first-item.is c.in-Mark.span c.in-Mark.mark Not c.in-Mark.is c.in-Not.is prefix_at)
