use Rattle.std.proofs.Common.{inl, inr, arith}
use Rattle.driver.proofs.ReadingLemmas.{ended}
use Rattle.driver.proofs.source_text.read_up_to.Goals as goal
use Rattle.driver.proofs.source_text.read_up_to.Goals.{then-limit-eq0+else-len-most, else-limit-eq0}

pub returns-in-Ok-2-clause-end : goal.returns-in-Ok-2-clause-end
returns-in-Ok-2-clause-end g c =
    elim c.if-limit-eq0.branch [
      | then-limit-eq0+else-len-most w ↦ inr (omega (arith, w.len.ensures, w.if-len-most.false, c.read_to_end.new.buf.ok.0))
      | else-limit-eq0 w ↦ inl (ended _ _ (omega (arith, c.limit.ensures, w.if-limit-eq0.false)) c.in-Ok.ensures.end)
    ]
