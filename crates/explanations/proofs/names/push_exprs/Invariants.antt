use Rattle.std.proofs.Common.{◌≡◌, ◌++◌, drop, map}
use Rattle.std.specs.List.{flat_map}
use Rattle.syntax.specs.Views.{expr_of}
use Rattle.explanations.specs.Names as name
use Rattle.explanations.specs.Working.Values.{idents}
use Rattle.explanations.proofs.names.push_exprs.Given as goal

abbrev pub invariant-loop-e : goal.invariant-loop-e
invariant-loop-e l =
    idents l.out.items ++ flat_map name.read_in (map expr_of (drop l.e-index l.exprs)) ≡ idents l.initial.out.items ++ flat_map name.read_in (map expr_of l.exprs)
