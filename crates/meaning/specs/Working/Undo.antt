-- A heap whose writes can be undone.
use Rattle.std.specs.Prelude.{◌≡◌, ◌⊎◌, ℕ, Bool, true, List, [], ◌∷◌, length, slice_get, slice_set, Some, ⊤}
use Rattle.core_lang.specs.declared.value.Value.{Value}

-- the heap before the writes that overwrote these values, the last write last
abbrev pub undone : List (ℕ × Value) → List Value → List Value
undone [] heap = heap
undone (w ∷ ws) heap = slice_set (undone ws heap) w.0 w.1

-- a heap now, and before the run
pub record Changed : Type 0 where
  pub now : List Value
  pub before : List Value

-- a cell among those that were overwritten
abbrev pub IsAmong : ℕ → List (ℕ × Value) → Type 0
IsAmong cell [] = ⊥
IsAmong cell (w ∷ ws) = (w.0 ≡ cell) ⊎ IsAmong cell ws

-- each cell is in the list once
abbrev pub IsOnce : List (ℕ × Value) → Type 0
IsOnce [] = ⊤
IsOnce (w ∷ ws) = (IsAmong w.0 ws → ⊥) × IsOnce ws

-- each cell has a mark, and exactly the marked cells have their former value in the list, once
pub record IsKept (marks : List Bool) (ws : List (ℕ × Value)) (count : ℕ) : Type 0 where
  pub long : length marks ≡ count
  pub marked : (cell : ℕ) → slice_get marks cell ≡ Some true → IsAmong cell ws
  pub kept : (cell : ℕ) → IsAmong cell ws → slice_get marks cell ≡ Some true
  pub once : IsOnce ws
