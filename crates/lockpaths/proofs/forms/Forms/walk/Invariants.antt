use Rattle.std.proofs.Common.{◌≡◌, ◌++◌, ℕ, List, drop}
use Rattle.lockpaths.specs.Working.States.{reads, IsState, IsKept}
use Rattle.lockpaths.proofs.forms.Forms.walk.Given as goal

abbrev pub invariant-loop-number : goal.invariant-loop-number
invariant-loop-number l = record {
  kept : IsKept l.fn.self l.self;
  is : IsState l.self l.at;
  same : (ns : List ℕ) →
      reads l.self l.at (drop l.number-index l.numbers ++ ns) ≡ reads l.fn.self l.fn.state (l.fn.numbers ++ ns);
}
