use Rattle.std.proofs.Common.{◌≡◌, ◌++◌, map, drop}
use Rattle.syntax.specs.Views.{member_of}
use Rattle.explanation_faults.specs.LimitsPassed.{own_lock_names}
use Rattle.explanation_names.specs.Working.Values.{idents}
use Rattle.explanation_faults.proofs.limits_passed.push_own_locks.Given as goal

abbrev pub invariant-loop-member : goal.invariant-loop-member
invariant-loop-member l =
    idents l.names.items ++ own_lock_names (map member_of (drop l.member-index l.members))
    ≡ idents l.initial.names.items ++ own_lock_names (map member_of l.members)
