use Rattle.std.proofs.Common.{◌≡◌, length, get_or}
use Rattle.std.specs.Prelude.{reverse}
use Rattle.lockpaths.specs.Working.Nodes.{nowhere, onto, path_by, IsAfter}
use Rattle.lockpaths.proofs.Numbered.{rank}
use Rattle.lockpaths.proofs.nodes.Nodes.path.Given as goal

abbrev pub invariant-steps : goal.invariant-steps
invariant-steps l = record {
  after : IsAfter (length l.self) l.step;
  same : onto (path_by l.self l.step) (reverse l.finals.items) ≡ get_or l.self l.node nowhere;
}

abbrev pub decreases-steps : goal.decreases-steps
decreases-steps l = rank l.step
