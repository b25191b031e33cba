use Rattle.std.proofs.Common.{◌≡◌, drop, map}
use Rattle.syntax.specs.Views.{ident}
use Rattle.explanation_names.specs.Working.Found.{some_begin}
use Rattle.explanation_names.proofs.members.some_begin.Given as goal

abbrev pub invariant-loop-name : goal.invariant-loop-name
invariant-loop-name l = some_begin l.at (map ident (drop l.name-index l.names)) ≡ some_begin l.at (map ident l.names)
