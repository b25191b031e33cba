use Rattle.std.proofs.Common.{◌≡◌, ◌++◌, drop, map}
use Rattle.syntax.specs.Views.{ident}
use Rattle.explanations.specs.Working.Values.{idents}
use Rattle.explanations.proofs.names.push_all.Given as goal

abbrev pub invariant-loop-name : goal.invariant-loop-name
invariant-loop-name l =
    idents l.out.items ++ map ident (drop l.name-index l.names) ≡ idents l.initial.out.items ++ map ident l.names
