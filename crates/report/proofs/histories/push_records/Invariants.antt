use Rattle.std.proofs.Common.{◌≡◌, ◌++◌, string_bytes, map, take}
use Rattle.std.specs.List.{flat_map}
use Rattle.report.specs.Entry.{entry_of}
use Rattle.report.specs.History.{entry_text}
use Rattle.report.proofs.histories.push_records.Given as goal

abbrev pub invariant-loop-call : goal.invariant-loop-call
invariant-loop-call l =
    string_bytes l.out ≡ string_bytes l.initial.out ++ flat_map (entry_text l.format l.program) (map entry_of (take l.call-index l.calls))
