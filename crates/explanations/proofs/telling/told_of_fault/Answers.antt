use Rattle.explanations.specs.Told.{explained}
use Rattle.explanations.proofs.telling.told_of_fault.Goals as goal

pub returns : goal.returns
returns c = explained (record { given = c.requires.given; bare = c.requires.bare; tell = c.in_ok-told.ensures.notes; others = c.in_ok-told.ensures.further })
