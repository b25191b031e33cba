use Rattle.points.specs.Working.Scoping.{is_at, test_root}
use Rattle.points.proofs.Sets.{IsUpTo}
use Rattle.points.proofs.roots.Roots.at.Given as goal

abbrev pub invariant-loop-i : goal.invariant-loop-i
invariant-loop-i l = IsUpTo (test_root l.self.paths.now (is_at l.local)) l.i l.set
