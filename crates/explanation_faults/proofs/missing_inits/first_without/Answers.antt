use Rattle.std.proofs.Common.{sym, ap, below_more}
use Rattle.std.specs.Prelude.{is_some}
use Rattle.explanation_faults.proofs.missing_inits.first_without.Goals as goal

pub loop-index-preserved : goal.loop-index-preserved
loop-index-preserved c = below_more _ _ c.loop-index.invariant (ap is_some (sym c.in-Some.ensures))
