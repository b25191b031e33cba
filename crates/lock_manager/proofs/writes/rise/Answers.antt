use Rattle.std.proofs.Common.{◌+◌, length}
use Rattle.std.specs.Prelude.{pos}
use Rattle.core_lang.specs.declared.value.Value.TheVariants.{Int}
use Rattle.lock_manager.proofs.Lists.{below_bound}
use Rattle.lock_manager.proofs.Heaps.{rise_more}
use Rattle.std.proofs.lemmas.Bool.{false≢true}
use Rattle.lock_manager.proofs.writes.rise.Goals as goal

pub loop-k-preserved : goal.loop-k-preserved
loop-k-preserved c = rise_more c.args.writes.now c.loop-k.k (0, Int (pos 0)) c.loop-k.auto.k c.loop-k-test.true c.loop-k.invariant c.if-writes-k.false

pub returns : goal.returns
returns c = λ t i d lt. c.loop-k.invariant i d (below_bound (i + 1) (length c.args.writes.now) c.loop-k.k lt c.loop-k-test.false)

pub returns-then-writes-k : goal.returns-then-writes-k
returns-then-writes-k c = λ t. absurd (false≢true t)
