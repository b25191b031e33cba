use Rattle.std.proofs.Common.{take}
use Rattle.outcomes.specs.Working.Steps.{GoesOn, made_from_all}
use Rattle.outcomes.proofs.search.Search.expand_all.Given as goal

-- the calls from the states so far were made
abbrev pub invariant-loop-number : goal.invariant-loop-number
invariant-loop-number l = GoesOn l.self l.initial.work l.work (made_from_all l.self (take l.number l.layer.states))
