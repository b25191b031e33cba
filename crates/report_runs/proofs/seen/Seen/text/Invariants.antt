use Rattle.std.proofs.Common.{◌≡◌, ◌++◌, map, take, string_bytes}
use Rattle.std.specs.List.{flat_map}
use Rattle.report_runs.specs.Working.Rows.{row_told, row_text}
use Rattle.report_runs.proofs.seen.Seen.text.Given as goal

-- the rows of the kinds so far, after the first lines
abbrev pub invariant-loop-told : goal.invariant-loop-told
invariant-loop-told l =
    string_bytes l.out ≡ string_bytes l.initial.out ++ flat_map row_text (map row_told (take l.told-index l.self.told.items))
