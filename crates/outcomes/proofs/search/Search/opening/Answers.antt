use Rattle.std.proofs.Common.{sym, subst}
use Rattle.outcomes.specs.Working.Changes.{AreChanges}
use Rattle.outcomes.proofs.ChangeLemmas.{no_changes}
use Rattle.outcomes.proofs.search.Search.opening.Goals as goal

pub push-requires-clause-changes : goal.push-requires-clause-changes
push-requires-clause-changes c =
    subst (AreChanges c.new-layer.result.opening) (sym c.new.ensures.items) (sym (no_changes c.new-layer.result.opening))
