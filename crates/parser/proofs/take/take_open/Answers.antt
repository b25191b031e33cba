use Rattle.std.proofs.Common.{sym, ◌∙◌}
use Rattle.parser.specs.Working.Reading.{open_at, open_from}
use Rattle.parser.specs.Theory.First.{sign_opened, sign_too_deep, sign_unopened, no_sign_opened, refused_none}
use Rattle.parser.proofs.take.take_open.Goals as goal
use Rattle.parser.proofs.take.take_open.Goals.{in_default, in-len1-up+in-Mark+else-is_same, in-len1-up+in_default-first}

pub returns-then-is_same-clause-gives : goal.returns-then-is_same-clause-gives
returns-then-is_same-clause-gives c =
    sign_opened c.args.tokens.now c.first-item.result c.in-len1-up.len_at_least c.first-item.is c.args.sign c.in-Mark.span c.in-Mark.mark c.in-Mark.is c.args.room (sym c.is_same.ensures ∙ c.if-is_same.true) c.if-room-eq0.false

pub returns-then-room-eq0-clause-gives : goal.returns-then-room-eq0-clause-gives
returns-then-room-eq0-clause-gives c =
    sign_too_deep c.args.tokens.now c.first-item.result c.in-len1-up.len_at_least c.first-item.is c.args.sign c.in-Mark.span c.in-Mark.mark c.in-Mark.is c.args.room (sym c.is_same.ensures ∙ c.if-is_same.true) c.if-room-eq0.true

pub returns-clause-gives : goal.returns-clause-gives
unfolding open_at
returns-clause-gives c = elim c.if-tokens-lt1.branch [
  | in_default w ↦ refused_none (open_from c.args.sign c.args.room) c.args.tokens.now w.in_default.len_below
  | in-len1-up+in-Mark+else-is_same w ↦ sign_unopened c.args.tokens.now w.first-item.result w.in-len1-up.len_at_least w.first-item.is c.args.sign w.in-Mark.span w.in-Mark.mark w.in-Mark.is c.args.room (sym w.is_same.ensures ∙ w.if-is_same.false)
  | in-len1-up+in_default-first w ↦ no_sign_opened c.args.tokens.now w.first-item.result w.in-len1-up.len_at_least w.first-item.is c.args.sign w.in_default-first.not-Mark c.args.room
]
