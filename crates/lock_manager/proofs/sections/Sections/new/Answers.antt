use Rattle.std.proofs.Common.{◌++◌, ◌∷◌, [], None, ap, ◌∙◌, replicate, length, length-append, arith}
use Rattle.std.proofs.lemmas.List.{replicate_more}
use Rattle.lock_manager.proofs.Lists.{same_bound}
use Rattle.lock_manager.proofs.sections.Sections.new.Goals as goal

pub loop-preserved : goal.loop-preserved
loop-preserved c = record {
  slots = c.in_ok-push.ensures.items ∙ ap (λ l. l ++ None ∷ []) c.loop.invariant.slots ∙ replicate_more c.loop.counter None;
  spare = omega (arith, ap length c.in_ok-push-2.ensures.items ∙ length-append c.loop.spare.items _, c.loop.invariant.spare);
}

pub returns : goal.returns
returns c = c.loop.invariant.slots ∙ ap (λ n. replicate n None) (same_bound c.loop.counter 64 c.loop.auto.counter-end c.loop-test.false)

pub invariant_of-result : goal.invariant_of-result
invariant_of-result c = (
  ap length (c.loop.invariant.slots ∙ ap (λ n. replicate n None) (same_bound c.loop.counter 64 c.loop.auto.counter-end c.loop-test.false)),
  c.loop.invariant.spare ∙ same_bound c.loop.counter 64 c.loop.auto.counter-end c.loop-test.false,
)
