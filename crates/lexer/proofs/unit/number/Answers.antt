use Rattle.std.proofs.Common.{◌∙◌, get_or, sym}
use Rattle.lexer.proofs.First.{one_digit, stays_small}
use Rattle.lexer.proofs.unit.number.Goals as goal

pub digits-preserved : goal.digits-preserved
digits-preserved c =
    let digit = sym c.is_digit_byte.ensures ∙ c.if-not-is_digit_byte.false in
    record {
      same = one_digit c.digits.value c.digits.rest.now c.in-len1-up.len_at_least digit ∙ c.digits.invariant.same;
      small = stays_small c.digits.value (get_or c.digits.rest.now 0 0) digit c.if-value-digit.false;
    }
