use Rattle.std.proofs.Common.{◌≡◌, drop}
use Rattle.resolution.specs.Working.Findings.{place_in}
use Rattle.resolution.proofs.finding.Firsts.place.Given as goal

abbrev pub invariant-loop-at : goal.invariant-loop-at
invariant-loop-at l =
    place_in l.at l.found (drop l.at l.fn.self.kept) ≡ place_in 0 l.found l.fn.self.kept
