use Rattle.std.proofs.Common.{◌≡◌, ◌++◌, take, string_bytes}
use Rattle.std.specs.List.{flat_map}
use Rattle.c_statements.specs.Working.Taken.{alone_at}
use Rattle.c_statements.proofs.acquires.Acquires.push_each.Given as goal

abbrev pub invariant-loop-number : goal.invariant-loop-number
invariant-loop-number l = string_bytes l.out ≡ string_bytes l.initial.out ++ flat_map (alone_at l.self) (take l.number-index l.run)
