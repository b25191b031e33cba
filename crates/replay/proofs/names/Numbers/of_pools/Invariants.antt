use Rattle.std.proofs.Common.{map, string_bytes}
use Rattle.core_lang.specs.declared.shape.Pool.{Pool}
use Rattle.replay.proofs.Numbering.{AreLast}
use Rattle.replay.proofs.names.Numbers.of_pools.Given as goal

-- the numbers of the last names so far
abbrev pub invariant-loop-left : goal.invariant-loop-left
invariant-loop-left l = AreLast (map (λ (x : Pool). string_bytes x.name) l.pools) l.left l.numbers
