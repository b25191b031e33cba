use Rattle.std.proofs.Common.{◌≡◌, ◌++◌, string_bytes, take}
use Rattle.report.specs.History.{commit_texts}
use Rattle.report.proofs.histories.push_entries.Given as goal

abbrev pub invariant-loop-position : goal.invariant-loop-position
invariant-loop-position l = string_bytes l.out ≡ string_bytes l.initial.out ++ commit_texts l.format l.program (take l.position l.history.commits)
