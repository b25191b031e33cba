-- The text of a rope, and how its code keeps it. Nobody has to believe this file: a rope keeps an answer until it is
-- written, and the answer is promised where it is written.
use Rattle.std.specs.Prelude.{◌≡◌, ◌≤◌, ◌<◌, ℕ, ◌-◌, List, [], ◌++◌, drop, take, map, slice_get, slice_index_or}
use Rattle.std.specs.Prelude.{string_bytes, Vec, String}
use Rattle.std.specs.Option.{option_map_or}
use Rattle.std.specs.List.{flat_map}
use Rattle.std.proofs.Common.{Global}
use Rattle.rope.specs.declared.text.Insert.{Insert}

-- a rope: its own bytes before each insertion, each with the part inserted after them, its own bytes after the last
-- insertion, and the groups of parts
pub record RopeOf : Type 0 where
  pub inserted : List (List ℕ × List ℕ)
  pub rest : List ℕ
  pub groups : List (List (List ℕ))

abbrev pub both : List ℕ × List ℕ → List ℕ
both pair = pair.0 ++ pair.1

-- the text of a rope
abbrev pub rope_text : RopeOf → List ℕ
rope_text rope = flat_map both rope.inserted ++ rope.rest

-- the part of a group, or the empty text if there is none
abbrev pub part_of : List (List (List ℕ)) → ℕ → ℕ → List ℕ
part_of groups group number = option_map_or (λ parts. slice_index_or parts number []) (slice_get groups group) []

-- a text was appended
abbrev pub Grows : List ℕ → RopeOf → RopeOf → Type 0
Grows text old new = rope_text new ≡ rope_text old ++ text

-- a text was appended, and the groups are the same
abbrev pub AddsTo : List ℕ → RopeOf → RopeOf → Type 0
AddsTo text old new = Grows text old new × (new.groups ≡ old.groups)

-- the rope's own bytes before an insertion, and its part
abbrev pub own_at : List (List ℕ × List ℕ) → ℕ → List ℕ
own_at inserted i = (slice_index_or inserted i ([], [])).0

abbrev pub part_at : List (List ℕ × List ℕ) → ℕ → List ℕ
part_at inserted i = (slice_index_or inserted i ([], [])).1

-- ---- as the code keeps it

abbrev pub groups_of : List (Vec (String Global) Global) → List (List (List ℕ))
groups_of groups = map (λ (parts : Vec (String Global) Global). map string_bytes parts.items) groups

-- the rope's own bytes between two insertions, and the part after them
abbrev pub piece : List ℕ → List (List (List ℕ)) → Insert → List ℕ × List ℕ
piece own groups x = (take (x.at - x.from) (drop x.from own), part_of groups x.group x.number)

-- the insertion lies within the given number of bytes, and its group among the given number of groups
pub record IsIn (bytes groups : ℕ) (x : Insert) : Type 0 where
  pub from : x.from ≤ x.at
  pub at : x.at ≤ bytes
  pub group : x.group < groups
