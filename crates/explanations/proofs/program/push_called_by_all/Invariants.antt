use Rattle.std.proofs.Common.{◌≡◌, ◌++◌, drop, map}
use Rattle.std.specs.List.{flat_map}
use Rattle.explanations.specs.Names as name
use Rattle.explanations.specs.Working.Values.{idents, stmt_at}
use Rattle.explanations.proofs.program.push_called_by_all.Given as goal

abbrev pub invariant-loop-stmt : goal.invariant-loop-stmt
invariant-loop-stmt l =
    idents l.out.items ++ flat_map name.calls (map stmt_at (drop l.stmt-index l.all)) ≡ idents l.initial.out.items ++ flat_map name.calls (map stmt_at l.all)
