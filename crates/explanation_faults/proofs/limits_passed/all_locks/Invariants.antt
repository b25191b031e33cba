use Rattle.std.proofs.Common.{◌≡◌, ◌++◌, map, drop}
use Rattle.std.specs.List.{flat_map}
use Rattle.syntax.specs.Views.{decl_of}
use Rattle.explanation_faults.specs.LimitsPassed.{lock_names}
use Rattle.explanation_names.specs.Working.Values.{idents}
use Rattle.explanation_faults.proofs.limits_passed.all_locks.Given as goal

abbrev pub invariant-loop-decl : goal.invariant-loop-decl
invariant-loop-decl l =
    idents l.names.items ++ flat_map lock_names (map decl_of (drop l.decl-index l.decls)) ≡ flat_map lock_names (map decl_of l.decls)
