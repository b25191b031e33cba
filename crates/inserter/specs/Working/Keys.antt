-- The numbers by which the lock paths of a section are sorted. Nobody has to believe these: `Placement` defines the
-- lists.
use Rattle.std.specs.Prelude.{◌≡◌, ◌<◌, ◌+◌, ◌*◌, ◌++◌, ℕ, zero, suc, List, [], ◌∷◌, ◌%◌, ◌&&◌, not, length}
use Rattle.std.specs.Prelude.{slice_get, slice_index, Some, if◌then◌else◌}
use Rattle.std.specs.List.{AllPairs, Contains}
use Rattle.core_lang.specs.declared.tree.Section.{Section}
use Rattle.core_lang.specs.declared.typed.Typed.{Typed}
use Rattle.locks.specs.declared.path_set.PathSet.{PathSet}
use Rattle.locks.specs.Sets.{has}
use Rattle.points.specs.declared.table.Points.{Points}
use Rattle.points.specs.Working.Points.{ArePoints}
use Rattle.inserter.specs.Placement.{AreLists}

-- the key of the path of this number, by the ranks of the paths
abbrev pub key_of : List ℕ → ℕ → ℕ
key_of ranks i = slice_index ranks i * 64 + i

-- the keys of the first n paths, in the order of their numbers
abbrev pub first_keys : List ℕ → ℕ → List ℕ
first_keys ranks zero = []
first_keys ranks (suc n) = first_keys ranks n ++ key_of ranks n ∷ []

-- the keys of all paths, the least first
pub record AreKeys (ranks keys : List ℕ) : Type 0 where
  pub rising : AllPairs ◌<◌ keys
  pub each : (k : ℕ) → Contains keys k → (i : ℕ) × (i < length ranks) × (k ≡ key_of ranks i)
  pub all : (i : ℕ) → i < length ranks → Contains keys (key_of ranks i)

-- the paths of a set, in the order of their keys
abbrev pub numbers_in : PathSet → List ℕ → List ℕ
numbers_in set [] = []
numbers_in set (k ∷ ks) = if has set (k % 64) then (k % 64) ∷ numbers_in set ks else numbers_in set ks

-- the paths of one set that are not in another, in the order of their keys
abbrev pub IsLeft : List ℕ → PathSet → PathSet → List ℕ → Type 0
IsLeft keys wanted held list =
    (set : PathSet) × ((i : ℕ) → has set i ≡ (has wanted i && not (has held i))) × (list ≡ numbers_in set keys)

-- the list of each point, by its two sets
pub record AreDue (keys : List ℕ) (wanted held : List PathSet) (lists : List (List ℕ)) : Type 0 where
  pub long : length wanted ≡ length held → length lists ≡ length wanted
  pub each : (p : ℕ) (w h : PathSet) (list : List ℕ) → slice_get wanted p ≡ Some w → slice_get held p ≡ Some h →
      slice_get lists p ≡ Some list → IsLeft keys w h list

-- the lists of any section whose points these are
abbrev pub AreListsOf : Points → List ℕ → List (List ℕ) → Type 0
AreListsOf x ranks lists = (program : Typed) (section : Section) → ArePoints program section x → AreLists program section ranks lists
