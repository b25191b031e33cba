use Rattle.outcomes.proofs.Grouped.{relabelled_alike}
use Rattle.outcomes.proofs.groups.relabel.Goals as goal

pub returns-then-from-to : goal.returns-then-from-to
returns-then-from-to c = relabelled_alike c.args.groups.now.items c.args.from c.args.to c.if-from-to.true
