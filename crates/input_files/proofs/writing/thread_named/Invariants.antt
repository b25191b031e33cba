use Rattle.std.proofs.Common.{◌≡◌, ◌+◌, drop}
use Rattle.std.specs.List.{position_or_len}
use Rattle.input_files.specs.Steps.{is_named}
use Rattle.input_files.proofs.writing.thread_named.Given as goal

abbrev pub invariant-loop-i : goal.invariant-loop-i
invariant-loop-i l =
    l.i + position_or_len (is_named l.name) (drop l.i l.threads) ≡ position_or_len (is_named l.name) l.threads
