use Rattle.std.proofs.Common.{◌∙◌, sym}
use Rattle.lexer.proofs.First.{sign_first}
use Rattle.lexer.proofs.unit.unit.Goals as goal

pub returns : goal.returns
returns c = rw (sign_first c.args.text.now c.in-len1-up.len_at_least (sym c.is_letter_byte.ensures ∙ c.if-is_letter_byte.false) (sym c.is_digit_byte.ensures ∙ c.if-is_digit_byte.false)) c.sign.ensures
