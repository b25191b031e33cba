use Rattle.std.proofs.Common.{◌≡◌, map, drop}
use Rattle.syntax.specs.Views.{member_of}
use Rattle.explanation_names.specs.FirstBy.{first_by}
use Rattle.explanation_faults.specs.LimitsPassed.{own_lock_in}
use Rattle.explanation_faults.proofs.locks_at_hand.own_lock.Given as goal

abbrev pub invariant-loop-member : goal.invariant-loop-member
invariant-loop-member l = first_by own_lock_in (map member_of (drop l.member-index l.members)) ≡ first_by own_lock_in (map member_of l.members)
