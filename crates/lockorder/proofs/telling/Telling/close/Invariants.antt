use Rattle.std.proofs.Common.{◌≡◌, ℕ, Some, map, take}
use Rattle.lockorder.specs.declared.ranks.ClassPair.{ClassPair}
use Rattle.lockorder.specs.Working.Tellings.{told_pair}
use Rattle.lockorder.proofs.telling.Telling.close.Given as goal

abbrev pub invariant-loop-pair : goal.invariant-loop-pair
invariant-loop-pair l = record {
  edges : map (λ (pair : ClassPair). Some pair.edge) l.closed.items ≡ take l.pair-index (map (told_pair l.self.told.items) l.pairs);
  nexts : map (λ (pair : ClassPair). pair.next) l.closed.items ≡ take l.pair-index (map (λ (pair : ℕ × ℕ). pair.1) l.pairs);
}
