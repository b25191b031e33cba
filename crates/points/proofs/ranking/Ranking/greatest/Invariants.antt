use Rattle.points.specs.Working.Ranks.{IsGreatest}
use Rattle.points.proofs.ranking.Ranking.greatest.Given as goal

abbrev pub invariant-loop-i : goal.invariant-loop-i
invariant-loop-i l = IsGreatest l.self.ranks.now l.used l.i l.greatest
