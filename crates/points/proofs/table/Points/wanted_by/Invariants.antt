use Rattle.std.proofs.Common.{◌≡◌, vec_len}
use Rattle.points.specs.Working.Ranks.{AreWantedBy}
use Rattle.points.proofs.table.Points.wanted_by.Given as goal

abbrev pub invariant-loop-p : goal.invariant-loop-p
invariant-loop-p l = record {
  len : vec_len l.sets ≡ l.p;
  sets : AreWantedBy l.self l.ranking.0.now l.p l.sets.items;
}
