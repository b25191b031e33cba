use Rattle.std.proofs.Common.{take}
use Rattle.outcomes.specs.Working.Steps.{GoesOn}
use Rattle.outcomes.specs.Working.Reducing.{reduced_from_all}
use Rattle.outcomes.proofs.search.Search.expand_groups.Given as goal

-- the calls from the states so far were made
abbrev pub invariant-loop-number : goal.invariant-loop-number
invariant-loop-number l = GoesOn l.self l.initial.work l.work (reduced_from_all l.self l.groups (take l.number l.layer.states))
