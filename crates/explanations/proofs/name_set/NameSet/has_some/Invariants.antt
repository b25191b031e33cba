use Rattle.std.proofs.Common.{◌≡◌, drop}
use Rattle.std.specs.List.{list_any}
use Rattle.explanations.specs.Working.Values.{has, ident_at}
use Rattle.explanations.proofs.name_set.NameSet.has_some.Given as goal

abbrev pub invariant-loop-name : goal.invariant-loop-name
invariant-loop-name l =
    list_any (λ x. has l.self (ident_at x).text) (drop l.name-index l.names) ≡ list_any (λ x. has l.self (ident_at x).text) l.names
