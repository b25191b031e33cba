use Rattle.core_lang.specs.Scopes.{numbers_from}
use Rattle.points.specs.Working.Scoping.{is_among, test_root}
use Rattle.points.proofs.Sets.{IsUpTo}
use Rattle.points.proofs.roots.Roots.among_parameters.Given as goal

abbrev pub invariant-loop-i : goal.invariant-loop-i
invariant-loop-i l = IsUpTo (test_root l.self.paths.now (is_among (numbers_from 0 l.parameters))) l.i l.set
