use Rattle.std.proofs.Common.{sym, ◌∙◌}
use Rattle.parser.specs.Working.Reading.{sign_at, sign_from}
use Rattle.parser.specs.Theory.First.{sign_taken, sign_other, no_sign, refused_none}
use Rattle.parser.proofs.take.take_sign.Goals as goal
use Rattle.parser.proofs.take.take_sign.Goals.{in_default, in-len1-up+in-Mark+else-is_same, in-len1-up+in_default-first}

pub returns-then-is_same : goal.returns-then-is_same
returns-then-is_same c = sign_taken c.args.tokens.now c.first-item.result c.in-len1-up.len_at_least c.first-item.is c.args.sign c.in-Mark.span c.in-Mark.mark c.in-Mark.is (sym c.is_same.ensures ∙ c.if-is_same.true)

pub returns : goal.returns
unfolding sign_at
returns c = elim c.if-tokens-lt1.branch [
  | in_default w ↦ refused_none (sign_from c.args.sign) c.args.tokens.now w.in_default.len_below
  | in-len1-up+in-Mark+else-is_same w ↦ sign_other c.args.tokens.now w.first-item.result w.in-len1-up.len_at_least w.first-item.is c.args.sign w.in-Mark.span w.in-Mark.mark w.in-Mark.is (sym w.is_same.ensures ∙ w.if-is_same.false)
  | in-len1-up+in_default-first w ↦ no_sign c.args.tokens.now w.first-item.result w.in-len1-up.len_at_least w.first-item.is c.args.sign w.in_default-first.not-Mark
]
