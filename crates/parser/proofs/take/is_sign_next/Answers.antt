use Rattle.std.proofs.Common.{sym, ◌∙◌}
use Rattle.source.specs.Tokens.{mark}
use Rattle.parser.specs.Working.Reading.{is_next}
use Rattle.parser.specs.Theory.First.{sign_next, no_sign_next, none_left}
use Rattle.parser.proofs.take.is_sign_next.Goals as goal

pub returns-in-Mark : goal.returns-in-Mark
returns-in-Mark c = c.is_same.ensures ∙ sym (sign_next c.args.tokens.now c.first-item.result c.in-len1-up.len_at_least c.first-item.is c.args.sign _ c.in-Mark.mark c.in-Mark.is)

pub returns-in_default-first : goal.returns-in_default-first
returns-in_default-first c = sym (no_sign_next c.args.tokens.now c.first-item.result c.in-len1-up.len_at_least c.first-item.is c.args.sign c.in_default-first.not-Mark)

pub returns-in_default : goal.returns-in_default
returns-in_default c = sym (none_left (is_next (mark c.args.sign)) c.args.tokens.now c.in_default.len_below)
