use Rattle.std.proofs.Common.{take}
use Rattle.explanations.specs.Working.Values.{IsSetOf, idents}
use Rattle.explanations.proofs.name_set.NameSet.of.Given as goal

abbrev pub invariant-loop-name : goal.invariant-loop-name
invariant-loop-name l =
    IsSetOf (idents (take l.name-index l.names)) l.set
