use Rattle.std.proofs.Common.{◌≡◌, ◌++◌, map, drop}
use Rattle.std.specs.List.{filter_map}
use Rattle.syntax.specs.Views.{decl_of}
use Rattle.explanation_names.specs.Working.Values.{idents}
use Rattle.explanation_faults.specs.Working.Values.{kind_name}
use Rattle.explanation_faults.proofs.limits_passed.kind_names.Given as goal

abbrev pub invariant-loop-decl : goal.invariant-loop-decl
invariant-loop-decl l =
    idents l.names.items ++ filter_map (kind_name l.kind) (map decl_of (drop l.decl-index l.decls)) ≡ filter_map (kind_name l.kind) (map decl_of l.decls)
