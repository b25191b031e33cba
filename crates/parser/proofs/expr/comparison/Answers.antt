use Rattle.std.proofs.Common.{sym}
use Rattle.source.specs.declared.token.Sign.TheVariants.{DoubleEquals, NotEquals, Less, LessEquals, Greater}
use Rattle.source.specs.declared.token.Sign.TheVariants.{GreaterEquals}
use Rattle.parser.specs.Working.Expressions.{comparison_at}
use Rattle.parser.specs.Theory.First.{mark_first}
use Rattle.parser.proofs.expr.comparison.Goals as goal

pub returns-in-DoubleEquals : goal.returns-in-DoubleEquals
unfolding comparison_at
returns-in-DoubleEquals c = sym (mark_first c.args.tokens.now c.first-item.result c.in-len1-up.len_at_least c.first-item.is c.in-Mark.field-0 c.in-Mark.mark DoubleEquals c.in-Mark.is c.in-DoubleEquals.is comparison_at)

pub returns-in-NotEquals : goal.returns-in-NotEquals
unfolding comparison_at
returns-in-NotEquals c = sym (mark_first c.args.tokens.now c.first-item.result c.in-len1-up.len_at_least c.first-item.is c.in-Mark.field-0 c.in-Mark.mark NotEquals c.in-Mark.is c.in-NotEquals.is comparison_at)

pub returns-in-Less : goal.returns-in-Less
unfolding comparison_at
returns-in-Less c = sym (mark_first c.args.tokens.now c.first-item.result c.in-len1-up.len_at_least c.first-item.is c.in-Mark.field-0 c.in-Mark.mark Less c.in-Mark.is c.in-Less.is comparison_at)

pub returns-in-LessEquals : goal.returns-in-LessEquals
unfolding comparison_at
returns-in-LessEquals c = sym (mark_first c.args.tokens.now c.first-item.result c.in-len1-up.len_at_least c.first-item.is c.in-Mark.field-0 c.in-Mark.mark LessEquals c.in-Mark.is c.in-LessEquals.is comparison_at)

pub returns-in-Greater : goal.returns-in-Greater
unfolding comparison_at
returns-in-Greater c = sym (mark_first c.args.tokens.now c.first-item.result c.in-len1-up.len_at_least c.first-item.is c.in-Mark.field-0 c.in-Mark.mark Greater c.in-Mark.is c.in-Greater.is comparison_at)

pub returns-in-GreaterEquals : goal.returns-in-GreaterEquals
unfolding comparison_at
returns-in-GreaterEquals c = sym (mark_first c.args.tokens.now c.first-item.result c.in-len1-up.len_at_least c.first-item.is c.in-Mark.field-0 c.in-Mark.mark GreaterEquals c.in-Mark.is c.in-GreaterEquals.is comparison_at)
