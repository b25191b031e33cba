use Rattle.std.proofs.Common.{◌≡◌, ◌++◌, string_bytes}
use Rattle.c_statements.specs.Acquires.{drop_text, downward}
use Rattle.c_statements.proofs.acquires.push_drops.Given as goal

abbrev pub invariant-loop-place : goal.invariant-loop-place
invariant-loop-place l =
    string_bytes l.out ++ downward (drop_text l.class l.count) l.place
    ≡ string_bytes l.initial.out ++ downward (drop_text l.class l.count) l.count
