-- The lock paths that an instruction of a section that is listed asks for.
use Rattle.std.specs.Prelude.{ℕ, List, [], slice_get, unwrap_or}
use Rattle.code.specs.declared.instr.Instr.{Instr}
use Rattle.code.specs.declared.instr.Instr.TheVariants.{Acquire}
use Rattle.code.specs.declared.listed.Listed.{Listed}
use Rattle.code.specs.Working.NumberLists.{number_lists}

-- the lists before the points of a listed section
abbrev pub lists_of : Listed → List (List ℕ)
lists_of listed = number_lists listed.lists.now

-- the list before a point
abbrev pub list_at : List (List ℕ) → ℕ → List ℕ
list_at lists point = unwrap_or (slice_get lists point) []

abbrev pub asked : List (List ℕ) → Instr → List ℕ
asked lists (Acquire point) = list_at lists point
asked lists _ = []
