-- Positions in a text of UTF-8: lines, and UTF-16 units within a line.
use Rattle.std.specs.Prelude.{ℕ, zero, suc, ◌+◌, ◌-◌, Bool, false, not, ◌&&◌, ◌||◌, ◌==◌, nat_lt, nat_le, List, [], ◌∷◌, Option, Some, None, if◌then◌else◌}
use Rattle.std.specs.List.{slice_get}
use Rattle.lsp_texts.specs.declared.walking.Position.{Position}

-- the number of units that begin with a byte: two for a character of four bytes, none for a continuation byte
-- (`10......`)
abbrev pub units_of : ℕ → ℕ
units_of b = if nat_le 128 b && nat_lt b 192 then 0 else if nat_le 240 b then 2 else 1

-- the byte is there, and is LF
abbrev pub is_lf : Option ℕ → Bool
is_lf None = false
is_lf (Some b) = b == 10

-- the byte ends a line: LF, or CR without LF after it
abbrev pub ends_line : ℕ → Option ℕ → Bool
ends_line b next = (b == 10) || ((b == 13) && not (is_lf next))

-- the position after a byte; a CR before a LF is not part of its line
abbrev pub behind : Position → ℕ → Option ℕ → Position
behind here b next =
    if ends_line b next then record { line = here.line + 1; unit = 0 } else if b == 13 then here else record { line = here.line; unit = here.unit + units_of b }

-- the position n bytes further, or at the text's end
unfoldable pub place_from : Position → List ℕ → ℕ → Position
place_from here bytes zero = here
place_from here [] (suc n) = here
place_from here (b ∷ bytes) (suc n) = place_from (behind here b (slice_get bytes 0)) bytes n

-- the position of the byte `at`
abbrev pub position_of : List ℕ → ℕ → Position
position_of text at = place_from (record { line = 0; unit = 0 }) text at

-- ---- bytes at positions

-- a line ends at the byte, or its character has the unit that is `units` further
abbrev pub stops : ℕ → ℕ → Bool
stops units b = (b == 10) || (b == 13) || nat_lt units (units_of b)

-- the number of bytes to the place that is `lines` lines further, and `units` units further in that line
unfoldable pub bytes_to : ℕ → ℕ → List ℕ → ℕ
bytes_to lines units [] = 0
bytes_to zero units (b ∷ bytes) = if stops units b then 0 else suc (bytes_to zero (units - units_of b) bytes)
bytes_to (suc lines) units (b ∷ bytes) = suc (if ends_line b (slice_get bytes 0) then bytes_to lines units bytes else bytes_to (suc lines) units bytes)

-- the byte at a position
abbrev pub offset_of : List ℕ → Position → ℕ
offset_of text position = bytes_to position.line position.unit text
