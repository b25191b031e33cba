use Rattle.std.proofs.Common.{◌≡◌, map, drop}
use Rattle.syntax.specs.Views.{decl_of}
use Rattle.explanation_names.specs.FirstBy.{first_by}
use Rattle.explanation_faults.specs.Working.LocksFound.{lock_in}
use Rattle.explanation_faults.proofs.locks_at_hand.global_lock.Given as goal

abbrev pub invariant-loop-decl : goal.invariant-loop-decl
invariant-loop-decl l = first_by lock_in (map decl_of (drop l.decl-index l.decls)) ≡ first_by lock_in (map decl_of l.decls)
