use Rattle.std.proofs.Common.{sym, subst}
use Rattle.workers.specs.Working.Rules.{AreEnds}
use Rattle.workers.proofs.Ends.{no_ends}
use Rattle.workers.proofs.log.Log.of.Goals as goal

pub invariant_of-result : goal.invariant_of-result
invariant_of-result g c = subst (AreEnds c.loop.ends.items) (sym c.new.ensures) (no_ends c.loop.ends.items c.loop.invariant)
