-- Grants: the cells of a lock, moved out of the manager.
use Rattle.std.specs.Prelude.{◌≡◌, ℕ, List, [], ◌∷◌, length, map, slice_get, Option, Some, None}
use Rattle.core_lang.specs.declared.value.Value.{Value}
use Rattle.locks.specs.declared.lock.Lock.{Lock}
use Rattle.layout.specs.LockCells.{cells_of}

-- a lock, and the values of its cells, in order of the cells' numbers
pub record GrantOf : Type 0 where
  pub lock : Lock
  pub values : List Value

-- the locks of these grants
abbrev pub locks_of : List GrantOf → List Lock
locks_of grants = map (λ (g : GrantOf). g.lock) grants

-- cells, each beside its value
abbrev pub numbered : List ℕ → List Value → List (ℕ × Value)
numbered [] values = []
numbered (c ∷ cs) [] = []
numbered (c ∷ cs) (v ∷ vs) = (c, v) ∷ numbered cs vs

-- the cells of a grant, each with its value; the list has the lock of each cell
abbrev pub cells_in : List Lock → GrantOf → List (ℕ × Value)
cells_in cell_locks grant = numbered (cells_of cell_locks grant.lock) grant.values

-- a grant has a value for each cell of its lock
abbrev pub IsWhole : List Lock → GrantOf → Type 0
IsWhole cell_locks grant = length grant.values ≡ length (cells_of cell_locks grant.lock)

-- a value in front of the list, if there is one
abbrev pub if_there : Option Value → List Value → List Value
if_there None values = values
if_there (Some v) values = v ∷ values

-- the values that a heap has in these cells, in their order
abbrev pub values_on : List Value → List ℕ → List Value
values_on heap [] = []
values_on heap (c ∷ cs) = if_there (slice_get heap c) (values_on heap cs)
