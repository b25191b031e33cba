use Rattle.lockorder.proofs.Reaching.{IsReaching}
use Rattle.lockorder.proofs.cycles.Reached.reach.Given as goal

abbrev pub invariant-loop-before : goal.invariant-loop-before
invariant-loop-before l = IsReaching l.table.before.items l.initial.self l.self l.class l.before
