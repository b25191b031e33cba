use Rattle.std.proofs.Common.{◌≡◌, ◌++◌, ◌-◌, string_bytes}
use Rattle.std.specs.List.{flat_map, range_with_len}
use Rattle.lsp_texts.specs.Lines.{line_between, piece}
use Rattle.lsp_texts.proofs.lines.Line.push.Given as goal

-- the written text and that of the remaining bytes are the whole line
abbrev pub invariant-loop-at : goal.invariant-loop-at
invariant-loop-at l =
    string_bytes l.out ++ flat_map (piece l.self.tokens.now l.self.first) (range_with_len l.at (l.end - l.at))
    ≡ string_bytes l.initial.out ++ line_between l.self.tokens.now l.self.first l.end
