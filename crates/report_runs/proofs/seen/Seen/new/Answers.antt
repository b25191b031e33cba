use Rattle.std.proofs.Common.{refl}
use Rattle.report_runs.proofs.RunSteps.{nothing_seen}
use Rattle.report_runs.proofs.seen.Seen.new.Goals as goal

pub returns : goal.returns
returns c =
    nothing_seen _ _ refl refl c.with_hasher.ensures.empty c.with_hasher-2.ensures.empty c.with_hasher-3.ensures.empty c.new.ensures.items
