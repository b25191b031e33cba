use Rattle.std.proofs.Common.{◌≡◌, ◌++◌, map, drop}
use Rattle.std.specs.List.{filter_map}
use Rattle.explanation_names.specs.Working.Viewed.{bound_name, stmt_at}
use Rattle.explanation_names.specs.Working.Values.{idents}
use Rattle.explanation_names.proofs.name_spaces.push_bound.Given as goal

abbrev pub invariant-loop-stmt : goal.invariant-loop-stmt
invariant-loop-stmt l =
    idents l.names.items ++ filter_map bound_name (map stmt_at (drop l.stmt-index l.all))
    ≡ idents l.initial.names.items ++ filter_map bound_name (map stmt_at l.all)
