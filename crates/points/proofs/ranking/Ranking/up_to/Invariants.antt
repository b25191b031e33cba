use Rattle.std.specs.Prelude.{nat_lt, not, slice_index}
use Rattle.points.proofs.Sets.{IsUpTo}
use Rattle.points.proofs.ranking.Ranking.up_to.Given as goal

abbrev pub invariant-loop-i : goal.invariant-loop-i
invariant-loop-i l = IsUpTo (λ j. not (nat_lt l.greatest (slice_index l.self.ranks.now j))) l.i l.set
