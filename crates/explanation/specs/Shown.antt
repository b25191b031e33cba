-- How a place of a source text is shown: its line, and below that a caret under the place.
use Rattle.std.specs.Prelude.{ℕ, ◌-◌, ◌/◌, ◌%◌, ◌==◌, ◌&&◌, nat_le, nat_lt, not, Bool, true, List, [], ◌∷◌, ◌++◌}
use Rattle.std.specs.Prelude.{take, drop, min, length, replicate, codes, if◌then◌else◌}
use Rattle.std.specs.Fmt.{digit_glyph}
use Rattle.std.specs.List.{flat_map, prefix_len, suffix_len}
use Rattle.code.specs.Listing.{line}

-- ---- bytes

-- the byte is a printable ASCII character
abbrev pub is_printable : ℕ → Bool
is_printable byte = nat_le 32 byte && nat_le byte 126

-- by its two hexadecimal digits, as <C3>
abbrev pub hex_text : ℕ → List ℕ
hex_text byte = codes "<" ++ digit_glyph true (byte / 16) ∷ digit_glyph true (byte % 16) ∷ codes ">"

-- a tab is shown as eight spaces, a carriage return not at all, and any other byte that is not a printable ASCII
-- character as its digits
abbrev pub shown_byte : ℕ → List ℕ
shown_byte byte =
    if byte == 9 then replicate 8 32 else if byte == 13 then [] else if is_printable byte then byte ∷ [] else hex_text byte

-- ---- the line

-- any byte but a line feed
abbrev pub is_in_line : ℕ → Bool
is_in_line byte = not (byte == 10)

-- the number of bytes of the line before the byte at this place
abbrev pub bytes_before : List ℕ → ℕ → ℕ
bytes_before text at = suffix_len is_in_line (take at text)

-- the number of bytes of the line from the byte at this place on
abbrev pub bytes_after : List ℕ → ℕ → ℕ
bytes_after text at = prefix_len is_in_line (drop at text)

-- the most bytes that are shown on each side
abbrev pub SIDE : ℕ
SIDE = 60

-- dots instead of what is left out
abbrev pub dots : ℕ → List ℕ
dots count = if nat_lt SIDE count then codes ".." else []

-- what is shown before the place: the last bytes of those before it
abbrev pub shown_before : List ℕ → ℕ → List ℕ
shown_before text at =
    let count = bytes_before text at in dots count ++ flat_map shown_byte (drop (at - min SIDE count) (take at text))

-- what is shown from the place on: the first bytes of those from it on
abbrev pub shown_after : List ℕ → ℕ → List ℕ
shown_after text at = let count = bytes_after text at in flat_map shown_byte (take (min SIDE count) (drop at text)) ++ dots count

-- ---- the place

-- the two spaces before each line
abbrev pub margin : List ℕ
margin = codes "  "

-- the caret below the first character that is shown from the place on
abbrev pub caret_text : List ℕ → ℕ → List ℕ
caret_text text at = replicate (length (shown_before text at)) 32 ++ codes "^"

-- the line of a place; one past the text's end is shown at its end
abbrev pub source_line : List ℕ → ℕ → List ℕ
source_line text start =
    let at = min start (length text) in line (margin ++ shown_before text at ++ shown_after text at)

-- both lines; a place past the text's end is shown at its end
abbrev pub shown_place : List ℕ → ℕ → List ℕ
shown_place text start =
    let at = min start (length text) in
    line (margin ++ shown_before text at ++ shown_after text at) ++ line (margin ++ caret_text text at)
