use Rattle.std.proofs.Common.{◌≡◌, map, take}
use Rattle.lockorder.specs.declared.ranks.ClassPair.{ClassPair}
use Rattle.lockorder.proofs.pairs.edges_of.Given as goal

abbrev pub invariant-loop-pair : goal.invariant-loop-pair
invariant-loop-pair l = l.edges.items ≡ map (λ (pair : ClassPair). pair.edge) (take l.pair-index l.pairs)
