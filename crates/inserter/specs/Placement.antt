-- The lock paths that are listed before each point of a section.
use Rattle.std.specs.Prelude.{◌≡◌, ◌<◌, ◌⊎◌, ℕ, List, map, length, slice_get, Some}
use Rattle.std.specs.List.{AllPairs, Contains}
use Rattle.core_lang.specs.declared.tree.Section.{Section}
use Rattle.core_lang.specs.declared.typed.Typed.{Typed}
use Rattle.flow.specs.Points.{points}
use Rattle.locks.specs.LockPaths.{LockPath, lock_paths}
use Rattle.points.specs.Wanted.{rank_of, IsWanted, IsSurelyHeld}
use Rattle.inserter.specs.declared.placed.SectionLists.{SectionLists}
use Rattle.inserter.specs.declared.placed.Placed.{Placed}

-- the section's lock path of this number
abbrev pub IsPath : Typed → Section → ℕ → LockPath → Type 0
IsPath program section i path = slice_get (lock_paths program section) i ≡ Some path

module _ (program : Typed) (section : Section) (ranks : List ℕ) where
  -- the path is wanted at the point, and some walk to the point does not take it
  pub record IsDue (p : ℕ) (path : LockPath) : Type 0 where
    pub wanted : IsWanted program section ranks p path
    pub missing : IsSurelyHeld program section ranks p path → ⊥

  -- by rising rank; of two paths with one rank, the path with the lower number, which is accessed first
  abbrev pub GoesBefore : ℕ → ℕ → Type 0
  GoesBefore i j =
      (a b : LockPath) → IsPath program section i a → IsPath program section j b →
      (rank_of ranks a < rank_of ranks b) ⊎ ((rank_of ranks a ≡ rank_of ranks b) × (i < j))

  -- the list before a point: the numbers of the paths that are due there, in this order
  pub record IsListBefore (p : ℕ) (list : List ℕ) : Type 0 where
    pub only : (i : ℕ) → Contains list i → (path : LockPath) × IsPath program section i path × IsDue p path
    pub all : (i : ℕ) (path : LockPath) → IsPath program section i path → IsDue p path → Contains list i
    pub order : AllPairs GoesBefore list

  -- the lists before all points of a section
  pub record AreLists (lists : List (List ℕ)) : Type 0 where
    pub long : length lists ≡ length (points section)
    pub each : (p : ℕ) (list : List ℕ) → slice_get lists p ≡ Some list → IsListBefore p list

-- the lists of all sections of a program
pub record IsPlacement (program : Typed) (ranks : List ℕ) (lists : List (List (List ℕ))) : Type 0 where
  pub long : length lists ≡ length program.sections.items
  pub each : (k : ℕ) (section : Section) (ls : List (List ℕ)) → slice_get program.sections.items k ≡ Some section →
      slice_get lists k ≡ Some ls → AreLists program section ranks ls

-- ---- the lists that a value of the code has

abbrev pub lists_of : SectionLists → List (List ℕ)
lists_of x = map (λ (list : _). list.items) x.before.items

abbrev pub all_lists : Placed → List (List (List ℕ))
all_lists placed = map lists_of placed.sections.items
