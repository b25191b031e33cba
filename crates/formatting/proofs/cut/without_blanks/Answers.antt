use Rattle.std.proofs.Common.{sym, ◌∙◌}
use Rattle.formatting.proofs.Cuts.{stays, goes}
use Rattle.formatting.proofs.cut.without_blanks.Goals as goal

pub returns-then-not-is_blank_byte : goal.returns-then-not-is_blank_byte
returns-then-not-is_blank_byte c =
    sym (stays c.blanks.rest.now c.in-len1-up.len_at_least (sym c.is_blank_byte.ensures ∙ c.if-not-is_blank_byte.true)) ∙ c.blanks.invariant

pub blanks-preserved : goal.blanks-preserved
blanks-preserved c =
    goes c.blanks.rest.now c.in-len1-up.len_at_least (sym c.is_blank_byte.ensures ∙ c.if-not-is_blank_byte.false) ∙ c.blanks.invariant
