use Rattle.std.proofs.Common.{◌≡◌, ◌+◌, ◌≤◌}
use Rattle.source.specs.Faults.{line_of, column_of}
use Rattle.source.proofs.cursor.Cursor.advance.Given as goal

-- line and column of the byte reached
abbrev pub invariant-loop-byte : goal.invariant-loop-byte
invariant-loop-byte l =
    let at = l.self.at + l.byte-index in
    record {
      of_line : l.line ≡ line_of l.self.text.now at;
      of_column : l.column ≡ column_of l.self.text.now at;
      few_lines : l.line ≤ at + 1;
      few_columns : l.column ≤ at + 1;
    }
