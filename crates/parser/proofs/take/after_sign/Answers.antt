use Rattle.std.proofs.Common.{sym, ◌∙◌}
use Rattle.parser.specs.Working.Reading.{skip_at}
use Rattle.parser.specs.Theory.First.{sign_skipped, sign_unskipped, no_sign_skipped, none_left}
use Rattle.parser.proofs.take.after_sign.Goals as goal
use Rattle.parser.proofs.take.after_sign.Goals.{in_default, in-len1-up+in-Mark+else-is_same}
use Rattle.parser.proofs.take.after_sign.Goals.{in-len1-up+in_default-first}

pub returns-then-is_same : goal.returns-then-is_same
returns-then-is_same c = sym (sign_skipped c.args.tokens.now c.first-item.result c.in-len1-up.len_at_least c.first-item.is c.args.sign _ c.in-Mark.mark c.in-Mark.is (sym c.is_same.ensures ∙ c.if-is_same.true))

pub returns : goal.returns
unfolding skip_at
returns c = elim c.if-tokens-lt1.branch [
  | in_default w ↦ sym (none_left (skip_at c.args.sign) c.args.tokens.now w.in_default.len_below)
  | in-len1-up+in-Mark+else-is_same w ↦ sym (sign_unskipped c.args.tokens.now w.first-item.result w.in-len1-up.len_at_least w.first-item.is c.args.sign _ w.in-Mark.mark w.in-Mark.is (sym w.is_same.ensures ∙ w.if-is_same.false))
  | in-len1-up+in_default-first w ↦ sym (no_sign_skipped c.args.tokens.now w.first-item.result w.in-len1-up.len_at_least w.first-item.is c.args.sign w.in_default-first.not-Mark)
]
