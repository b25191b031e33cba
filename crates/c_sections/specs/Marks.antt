-- The `#line` directives in the C of a section, which name lines of the program's file for debuggers, profilers and
-- sanitizers. A directive precedes each point's instructions. Their C is on one line, and so all of it belongs to the
-- line where the point's statement starts.
use Rattle.std.specs.Prelude.{ℕ, ◌==◌, ◌&&◌, ◌/◌, ◌%◌, Bool, true, false, not, if◌then◌else◌, leb, nat_lt}
use Rattle.std.specs.Prelude.{List, [], ◌∷◌, ◌++◌, slice_get, Option, Some, None, option_map, option_and_then, codes}
use Rattle.std.specs.List.{flat_map}
use Rattle.std.specs.Fmt.{decimal}
use Rattle.source.specs.Faults.{line_of}
use Rattle.core_lang.specs.declared.tree.Section.{Section}
use Rattle.flow.specs.Points.{Point, points, start_of}
use Rattle.code.specs.LineTables.{point_at, last_of}

-- ---- a file's name, in a string of C

-- printable ASCII except `"`, `?` and `\`, which can begin something else in a string
abbrev pub is_plain : ℕ → Bool
is_plain c = leb 32 c && leb c 126 && not (c == 34) && not (c == 63) && not (c == 92)

-- three octal digits
abbrev pub octal_text : ℕ → List ℕ
octal_text c = codes "\\" ++ decimal (c / 64) ++ decimal (c / 8 % 8) ++ decimal (c % 8)

-- a byte of a file's name in a string
abbrev pub quoted_byte : ℕ → List ℕ
quoted_byte c = if is_plain c then c ∷ [] else octal_text c

-- a directive with this line of a file, on a line of its own
abbrev pub directive : List ℕ → ℕ → List ℕ
directive name line = codes "\n#line " ++ decimal line ++ codes " \"" ++ flat_map quoted_byte name ++ codes "\"\n"

-- the directive after a section: what follows belongs to no line of the program
abbrev pub unmarked_text : List ℕ
unmarked_text = codes "\n#line 1 \"emitted\"\n"

-- ---- the places of directives

-- the point of the instruction before a place
abbrev pub point_ahead : List ℕ → ℕ → Option ℕ
point_ahead begins place = option_and_then (λ ahead. point_at begins ahead) (last_of place)

-- both instructions belong to one point, or both to none
abbrev pub same_point : Option ℕ → Option ℕ → Bool
same_point None None = true
same_point (Some a) (Some b) = a == b
same_point _ _ = false

-- the instruction at a place belongs to the same point as the one before it
abbrev pub goes_on : List ℕ → ℕ → Bool
goes_on begins place = same_point (point_ahead begins place) (point_at begins place)

-- the line of a text in which a point's statement starts
abbrev pub line_in : List ℕ → Point → ℕ
line_in text point = line_of text (start_of point)

-- the line of the point of an instruction, if it has one
abbrev pub point_line : List ℕ → Section → Option ℕ → Option ℕ
point_line text section here =
    option_and_then (λ point. option_map (line_in text) (slice_get (points section) point)) here

-- a directive, unless the instruction belongs to the point of the one before it
abbrev pub directive_if : List ℕ → Bool → Option ℕ → List ℕ
directive_if name false (Some line) = directive name line
directive_if name _ _ = []

-- the mark before the instruction at a place, in a file of this name and text; points begin at these places
abbrev pub mark : List ℕ → List ℕ → Section → List ℕ → ℕ → List ℕ
mark name text section begins place =
    directive_if name (goes_on begins place) (point_line text section (point_at begins place))

-- ---- on one line

-- a line feed becomes a space. C text is ASCII
abbrev pub flat_byte : ℕ → List ℕ
flat_byte c = if c == 10 then 32 ∷ [] else if nat_lt c 128 then c ∷ [] else 63 ∷ []

-- the text on one line
abbrev pub flat : List ℕ → List ℕ
flat text = flat_map flat_byte text
