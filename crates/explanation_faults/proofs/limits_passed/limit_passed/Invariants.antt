use Rattle.std.proofs.Common.{◌≡◌, map, drop}
use Rattle.syntax.specs.Views.{decl_of}
use Rattle.explanation_names.specs.FirstBy.{first_by}
use Rattle.explanation_faults.specs.Working.LimitsFound.{limit_in}
use Rattle.explanation_faults.proofs.limits_passed.limit_passed.Given as goal

abbrev pub invariant-loop-decl : goal.invariant-loop-decl
invariant-loop-decl l = first_by (limit_in l.at) (map decl_of (drop l.decl-index l.decls)) ≡ first_by (limit_in l.at) (map decl_of l.decls)
