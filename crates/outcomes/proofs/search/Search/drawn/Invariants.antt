use Rattle.outcomes.specs.Working.Drawing.{AreEndsOf}
use Rattle.outcomes.proofs.search.Search.drawn.Given as goal

-- the ends of the orders so far
abbrev pub invariant-loop : goal.invariant-loop
invariant-loop l = AreEndsOf l.self l.drawing l.counter
