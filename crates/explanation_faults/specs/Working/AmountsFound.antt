-- How the code counts objects, cells and calls. Nobody has to believe this file.
use Rattle.std.specs.Prelude.{ℕ, ◌+◌, ◌-◌, ◌^◌, ◌==◌, min, nat_lt, Bool, false, if◌then◌else◌, List, [], ◌∷◌, take}
use Rattle.std.specs.Prelude.{Option, Some, None}
use Rattle.resolution.specs.Working.FaultLists.{is_at}
use Rattle.resolution.specs.Limits.{OBJECT_LIMIT, CELL_LIMIT}
use Rattle.resolution.specs.Numbers.{objects_of, cells_of}
use Rattle.resolution.specs.Working.Building.{few_calls}
use Rattle.resolution.specs.Scopes.{declared, member_bears, place_of}
use Rattle.syntax.specs.Trees.{Ident, Member, field_member, Decl}
use Rattle.explanation_faults.specs.declared.amounts_passed.Amount.{Amount}
use Rattle.explanation_faults.specs.declared.amounts_passed.Amount.TheVariants.{Objects, Cells}

-- the name begins there
abbrev pub begins : ℕ → Option Ident → Bool
begins at (Some x) = x.span.start == at
begins at None = false

-- where there is room for so much: the declaration for which there is too little begins there
abbrev pub first_over : (Decl → ℕ) → ℕ → ℕ → List Decl → Bool
first_over of at room [] = false
first_over of at room (d ∷ ds) = if nat_lt room (of d) then begins at (declared d) else first_over of at (room - of d) ds

-- a number, where all past what 64 bits hold count alike
abbrev pub most : ℕ → ℕ
most n = min n (2 ^ 64 - 1)

-- ---- of declarations

-- 1 for a field, at the place of the first member of its name
abbrev pub field_count : List Member → ℕ → Member → ℕ
field_count members k (field_member f) = if is_at k (place_of member_bears members f.name.text) then 1 else 0
field_count members k _ = 0

abbrev pub amount_of : Amount → List Decl → Decl → ℕ
amount_of Objects decls = objects_of
amount_of Cells decls = cells_of decls

abbrev pub limit_of : Amount → ℕ
limit_of Objects = OBJECT_LIMIT
limit_of Cells = CELL_LIMIT

-- ---- of threads

-- the sum of the calls first exceeds the limit with the declaration `i`
abbrev pub ends_few : List Decl → ℕ → Bool
ends_few decls i = if few_calls (take (i + 1) decls) then false else few_calls (take i decls)
