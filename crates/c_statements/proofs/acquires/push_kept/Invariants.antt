use Rattle.std.proofs.Common.{◌≡◌, ◌++◌, string_bytes, drop}
use Rattle.c_statements.specs.Acquires.{keep_text, numbered}
use Rattle.c_statements.proofs.acquires.push_kept.Given as goal

-- the written text and that of the remaining items are the whole text
abbrev pub invariant-loop-place : goal.invariant-loop-place
invariant-loop-place l =
    string_bytes l.out ++ numbered keep_text l.place (drop l.place l.run) ≡ string_bytes l.initial.out ++ numbered keep_text 0 l.run
