-- Ranges of a text, as the protocol's JSON.
use Rattle.std.specs.Prelude.{ℕ, List, codes}
use Rattle.lsp_texts.specs.Positions.{position_of}
use Rattle.lsp_texts.specs.declared.walking.Position.{Position}
use Rattle.serde_json.specs.Data.{Data, number, object, unsigned, member, no_members}

-- {"character":UNIT,"line":LINE}
abbrev pub place_data : Position → Data
place_data place = object (member (codes "character") (number (unsigned place.unit)) (member (codes "line") (number (unsigned place.line)) no_members))

-- {"end":PLACE,"start":PLACE}, from one byte to another
abbrev pub range_data : List ℕ → ℕ → ℕ → Data
range_data text start end =
    object (member (codes "end") (place_data (position_of text end)) (member (codes "start") (place_data (position_of text start)) no_members))
