use Rattle.outcomes.specs.Working.Changes.{applied}
use Rattle.outcomes.specs.Working.States.{left_with}
use Rattle.outcomes.specs.Working.Tables.{IsLeft, left_count}
use Rattle.outcomes.proofs.layer.Layer.place.Given as goal

abbrev pub invariant-loop-last : goal.invariant-loop-last
invariant-loop-last l = IsLeft l.self-inside.start l.self-inside.opening.now l.self-inside.entries.items l.done (left_with (applied l.changes l.self-inside.opening.now) l.answers) l.last

abbrev pub decreases-loop-last : goal.decreases-loop-last
decreases-loop-last l = left_count l.last
