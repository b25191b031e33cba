use Rattle.std.proofs.Common.{◌≡◌, map, drop}
use Rattle.syntax.specs.Views.{member_of}
use Rattle.explanation_faults.specs.Working.LocksFound.{some_lacks_lock}
use Rattle.explanation_faults.proofs.locks_at_hand.some_lacks_lock.Given as goal

abbrev pub invariant-loop-member : goal.invariant-loop-member
invariant-loop-member l =
    some_lacks_lock l.at (map member_of (drop l.member-index l.members)) ≡ some_lacks_lock l.at (map member_of l.members)
