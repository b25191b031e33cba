-- A position, one byte on.
use Rattle.std.specs.Prelude.{ℕ, zero, suc, ◌-◌, Option, Some, None, if◌then◌else◌}
use Rattle.lsp_texts.specs.Positions.{ends_line, stops, units_of}

-- the lines and units that are left to a position after one more byte; `None` if the position is at this byte
abbrev pub step : ℕ → ℕ → ℕ → Option ℕ → Option (ℕ × ℕ)
step zero units b next = if stops units b then None else Some (0, units - units_of b)
step (suc lines) units b next = if ends_line b next then Some (lines, units) else Some (suc lines, units)
