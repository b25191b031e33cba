-- The parameters of requests about documents.
use Rattle.std.specs.Prelude.{ℕ, Bool, false, List, codes, Option, Some, None, option_and_then, unwrap_or}
use Rattle.serde_json.specs.Data.{Data}
use Rattle.serde_json.specs.Find.{get, as_bool, as_number, as_str, as_u64}
use Rattle.lsp_texts.specs.declared.walking.Position.{Position}

-- the number in a member
abbrev pub number_in : List ℕ → Data → Option ℕ
number_in name value = option_and_then (λ found. option_and_then as_u64 (as_number found)) (get name value)

-- the position with this line and unit, if both are there
abbrev pub place_at : Option ℕ → Option ℕ → Option Position
place_at (Some line) (Some unit) = Some (record { line = line; unit = unit })
place_at (Some line) None = None
place_at None unit = None

-- {"character":UNIT,"line":LINE}
abbrev pub position_of : Data → Option Position
position_of value = place_at (number_in (codes "line") value) (number_in (codes "character") value)

-- the position that the parameters name
abbrev pub position : Data → Option Position
position params = option_and_then position_of (get (codes "position") params)

-- `context.includeDeclaration`; false, where it is missing
abbrev pub with_declaration : Data → Bool
with_declaration params =
    unwrap_or (option_and_then (λ context. option_and_then as_bool (get (codes "includeDeclaration") context)) (get (codes "context") params)) false

-- the new name that the parameters name
abbrev pub new_name : Data → Option (List ℕ)
new_name params = option_and_then as_str (get (codes "newName") params)

-- both values, if both are there
abbrev pub both_of : {X Y : Type 0} → Option X → Option Y → Option (X × Y)
both_of (Some x) (Some y) = Some (x, y)
both_of (Some x) None = None
both_of None y = None

-- the requested position and name
abbrev pub new_place : Data → Option (Position × List ℕ)
new_place params = both_of (position params) (new_name params)

-- the position of an end of a range
abbrev pub end_in : List ℕ → Data → Option Position
end_in end range = option_and_then position_of (get end range)

-- the start and the end of `range`
abbrev pub range : Data → Option (Position × Position)
range params =
    option_and_then (λ range. both_of (end_in (codes "start") range) (end_in (codes "end") range)) (get (codes "range") params)

-- the line of an end of a range
abbrev pub line_of : List ℕ → Data → Option ℕ
line_of end range = option_and_then (number_in (codes "line")) (get end range)

-- the first and the last line of `range`
abbrev pub lines : Data → Option (ℕ × ℕ)
lines params =
    option_and_then (λ range. both_of (line_of (codes "start") range) (line_of (codes "end") range)) (get (codes "range") params)
