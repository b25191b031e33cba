use Rattle.std.proofs.Common.{◌≡◌, ℕ, List, ◌∷◌}
use Rattle.lockpaths.specs.Working.States.{reads, IsState}
use Rattle.lockpaths.proofs.Walked.{depth}
use Rattle.lockpaths.proofs.forms.Forms.next.Given as goal

abbrev pub invariant-states : goal.invariant-states
invariant-states l = record {
  is : IsState l.self l.at;
  same : (ns : List ℕ) → reads l.self l.at (l.number ∷ ns) ≡ reads l.self l.fn.state (l.number ∷ ns);
}

abbrev pub decreases-states : goal.decreases-states
decreases-states l = depth l.at
