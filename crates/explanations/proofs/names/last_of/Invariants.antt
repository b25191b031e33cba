use Rattle.std.proofs.Common.{◌≡◌, drop, map}
use Rattle.syntax.specs.Views.{ident}
use Rattle.explanations.specs.Names as name
use Rattle.explanations.proofs.names.last_of.Given as goal

abbrev pub invariant-loop-next : goal.invariant-loop-next
invariant-loop-next l =
    name.last_of (ident l.last) (map ident (drop l.next-index l.rest)) ≡ name.last_of (ident l.first) (map ident l.rest)
