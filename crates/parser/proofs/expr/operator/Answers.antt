use Rattle.std.proofs.Common.{ap, sym, ◌∙◌}
use Rattle.source.specs.declared.token.Sign.TheVariants.{Plus, Minus, Star, Slash, Percent, And, Or}
use Rattle.source.specs.Tokens.{mark, seen}
use Rattle.syntax.specs.declared.tree.Level.{Level}
use Rattle.parser.specs.Working.Expressions.{op_at, op_of, before_rest}
use Rattle.parser.specs.Theory.First.{mark_first, behind_first}
use Rattle.parser.proofs.expr.operator.Goals as goal

pub returns-in-Sum-Plus : goal.returns-in-Sum-Plus
unfolding op_at
returns-in-Sum-Plus c =
    sym (mark_first c.args.tokens.now c.first-item.result c.in-len1-up.len_at_least c.first-item.is c.in-Mark.field-0 c.in-Mark.mark Plus c.in-Mark.is c.in-Sum-Plus.is-1 (op_at c.args.level)
    ∙ ap (λ (k : Level). before_rest (op_of k (mark Plus)) (seen (behind_first c.args.tokens.now))) c.in-Sum-Plus.is-0)

pub returns-in-Sum-Minus : goal.returns-in-Sum-Minus
unfolding op_at
returns-in-Sum-Minus c =
    sym (mark_first c.args.tokens.now c.first-item.result c.in-len1-up.len_at_least c.first-item.is c.in-Mark.field-0 c.in-Mark.mark Minus c.in-Mark.is c.in-Sum-Minus.is-1 (op_at c.args.level)
    ∙ ap (λ (k : Level). before_rest (op_of k (mark Minus)) (seen (behind_first c.args.tokens.now))) c.in-Sum-Minus.is-0)

pub returns-in-Term-Star : goal.returns-in-Term-Star
unfolding op_at
returns-in-Term-Star c =
    sym (mark_first c.args.tokens.now c.first-item.result c.in-len1-up.len_at_least c.first-item.is c.in-Mark.field-0 c.in-Mark.mark Star c.in-Mark.is c.in-Term-Star.is-1 (op_at c.args.level)
    ∙ ap (λ (k : Level). before_rest (op_of k (mark Star)) (seen (behind_first c.args.tokens.now))) c.in-Term-Star.is-0)

pub returns-in-Term-Slash : goal.returns-in-Term-Slash
unfolding op_at
returns-in-Term-Slash c =
    sym (mark_first c.args.tokens.now c.first-item.result c.in-len1-up.len_at_least c.first-item.is c.in-Mark.field-0 c.in-Mark.mark Slash c.in-Mark.is c.in-Term-Slash.is-1 (op_at c.args.level)
    ∙ ap (λ (k : Level). before_rest (op_of k (mark Slash)) (seen (behind_first c.args.tokens.now))) c.in-Term-Slash.is-0)

pub returns-in-Term-Percent : goal.returns-in-Term-Percent
unfolding op_at
returns-in-Term-Percent c =
    sym (mark_first c.args.tokens.now c.first-item.result c.in-len1-up.len_at_least c.first-item.is c.in-Mark.field-0 c.in-Mark.mark Percent c.in-Mark.is c.in-Term-Percent.is-1 (op_at c.args.level)
    ∙ ap (λ (k : Level). before_rest (op_of k (mark Percent)) (seen (behind_first c.args.tokens.now))) c.in-Term-Percent.is-0)

pub returns-in-Conjunction-And : goal.returns-in-Conjunction-And
unfolding op_at
returns-in-Conjunction-And c =
    sym (mark_first c.args.tokens.now c.first-item.result c.in-len1-up.len_at_least c.first-item.is c.in-Mark.field-0 c.in-Mark.mark And c.in-Mark.is c.in-Conjunction-And.is-1 (op_at c.args.level)
    ∙ ap (λ (k : Level). before_rest (op_of k (mark And)) (seen (behind_first c.args.tokens.now))) c.in-Conjunction-And.is-0)

pub returns-in-Disjunction-Or : goal.returns-in-Disjunction-Or
unfolding op_at
returns-in-Disjunction-Or c =
    sym (mark_first c.args.tokens.now c.first-item.result c.in-len1-up.len_at_least c.first-item.is c.in-Mark.field-0 c.in-Mark.mark Or c.in-Mark.is c.in-Disjunction-Or.is-1 (op_at c.args.level)
    ∙ ap (λ (k : Level). before_rest (op_of k (mark Or)) (seen (behind_first c.args.tokens.now))) c.in-Disjunction-Or.is-0)
