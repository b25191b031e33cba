use Rattle.std.proofs.Common.{◌≡◌, length}
use Rattle.outcomes.specs.Working.Grouping.{AreGrouped, AreFinest}
use Rattle.outcomes.proofs.groups.grouped.Given as goal

abbrev pub invariant-loop-number : goal.invariant-loop-number
invariant-loop-number l = record {
  long : length l.groups.items ≡ l.threads;
  grouped : AreGrouped l.cells l.touched l.groups.items l.number;
  finest : AreFinest l.cells l.touched l.groups.items l.number;
}
