use Rattle.std.proofs.Common.{◌≡◌, ◌++◌, string_bytes, map, take}
use Rattle.std.specs.List.{flat_map}
use Rattle.outcomes.specs.Ends.{told_of}
use Rattle.report_runs.specs.Outcomes.{end_text}
use Rattle.report_runs.specs.Working.Known.{left_known}
use Rattle.report_runs.proofs.ends.Ends.push_others.Given as goal

abbrev pub invariant-loop-end : goal.invariant-loop-end
invariant-loop-end l =
    string_bytes l.out
    ≡ string_bytes l.initial.out ++ flat_map (end_text l.self.program.now l.self.asked.now l.self.scope (left_known l.known)) (map told_of (take l.end-index l.ends))
