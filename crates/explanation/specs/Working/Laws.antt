-- A law of every shown place.
use Rattle.std.specs.Prelude.{◌≡◌, ◌<◌, ℕ, List, take}
use Rattle.explanation.specs.Shown.{SIDE, shown_place}

-- the beginning of a text is shown in the same way for each prefix of the text that is longer than what is shown
abbrev pub ShownByFirstBytes : Type 0
ShownByFirstBytes = (count : ℕ) (text : List ℕ) → SIDE < count → shown_place (take count text) 0 ≡ shown_place text 0
