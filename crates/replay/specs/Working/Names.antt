-- A table of names, and the number of each. It mirrors the code: nobody has to believe it.
use Rattle.std.specs.Prelude.{◌≡◌, ℕ, List, Option, Some, if◌then◌else◌}
use Rattle.std.specs.BTreeMap.{get_by}
use Rattle.std.specs.Cmp.Lexicographic.{slice_cmp}
use Rattle.std.specs.Ordering.{nat_cmp}
use Rattle.std.specs.Str.{bytes_eq}
use Rattle.replay.specs.declared.names.Numbers.{Numbers}
use Rattle.replay.specs.Told.{first_named}

-- the number that a table has for a name
abbrev pub found : Numbers → List ℕ → Option ℕ
found numbers name = get_by (λ key. slice_cmp nat_cmp name key.now) numbers.numbers

-- the table with this number for a name
abbrev pub IsWithName : List ℕ → ℕ → Numbers → Numbers → Type 0
IsWithName name number old new = (text : List ℕ) → found new text ≡ (if bytes_eq name text then Some number else found old text)

-- the table has the number of the first that bears a name
abbrev pub AreNumbersOf : List (List ℕ) → Numbers → Type 0
AreNumbersOf names numbers = (text : List ℕ) → found numbers text ≡ first_named 0 names text
