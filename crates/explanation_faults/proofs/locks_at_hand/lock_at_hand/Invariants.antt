use Rattle.std.proofs.Common.{◌≡◌, map, drop}
use Rattle.syntax.specs.Views.{decl_of}
use Rattle.explanation_names.specs.FirstBy.{first_by}
use Rattle.explanation_faults.specs.Working.LocksFound.{lock_for}
use Rattle.explanation_faults.proofs.locks_at_hand.lock_at_hand.Given as goal

abbrev pub invariant-loop-decl : goal.invariant-loop-decl
invariant-loop-decl l =
    first_by (lock_for (map decl_of l.decls) l.at) (map decl_of (drop l.decl-index l.decls)) ≡ first_by (lock_for (map decl_of l.decls) l.at) (map decl_of l.decls)
