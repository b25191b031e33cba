use Rattle.std.proofs.Common.{◌≡◌, ◌++◌, string_bytes, take}
use Rattle.report_runs.specs.Working.Instructions.{paths_told}
use Rattle.report_runs.proofs.instructions.SectionTeller.push_paths.Given as goal

abbrev pub invariant-loop-number : goal.invariant-loop-number
invariant-loop-number l =
    string_bytes l.out ≡ string_bytes l.initial.out ++ paths_told l.self (take l.number-index l.list)
