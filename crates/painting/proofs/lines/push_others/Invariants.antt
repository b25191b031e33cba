use Rattle.std.proofs.Common.{◌≡◌, ◌++◌, string_bytes, map, take}
use Rattle.std.specs.List.{flat_map}
use Rattle.painting.specs.Painted.{behind_line_feed}
use Rattle.painting.proofs.lines.push_others.Given as goal

abbrev pub invariant-loop-line : goal.invariant-loop-line
invariant-loop-line l =
    string_bytes l.out ≡ string_bytes l.initial.out ++ flat_map behind_line_feed (map (λ line. line.now) (take l.line-index l.lines))
