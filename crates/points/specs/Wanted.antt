-- The lock paths that are wanted at a point of a section, and those that are surely held there, given the ranks of the
-- classes.
use Rattle.std.specs.Prelude.{ℕ, ◌≤◌, ◌⊎◌, List, ◌∷◌, slice_index}
use Rattle.core_lang.specs.declared.tree.Section.{Section}
use Rattle.core_lang.specs.declared.typed.Typed.{Typed}
use Rattle.flow.specs.Skeletons.{skeleton}
use Rattle.flow.specs.Walks.{Walk}
use Rattle.locks.specs.LockPaths.{LockPath, Uses, IsInScope, BindsRoot}
use Rattle.locks.specs.declared.path_set.PathSet.{PathSet}
use Rattle.locks.specs.Sets.{AreSets}
use Rattle.points.specs.declared.table.Points.{Points}
use Rattle.points.specs.Working.Points.{ArePoints}
use Rattle.points.specs.Used.{IsUsedLater}

-- the rank of a path, which is that of its class
abbrev pub rank_of : List ℕ → LockPath → ℕ
rank_of ranks path = slice_index ranks path.class

module _ (program : Typed) (section : Section) (ranks : List ℕ) where
  -- the path is in scope, used here or later, and its rank is at most that of some path that is used here
  pub record IsWanted (p : ℕ) (path : LockPath) : Type 0 where
    pub in_scope : IsInScope section p path
    pub ahead : Uses program section p path ⊎ IsUsedLater program section p path
    pub below : (other : LockPath) × Uses program section p other × (rank_of ranks path ≤ rank_of ranks other)

  -- the path is wanted at one of these points, the latest of which comes first, and no point from there on binds its
  -- root
  pub data IsTaken (path : LockPath) : List ℕ → Type 0 where
    last : {p : ℕ} {ps : List ℕ} → IsWanted p path → (BindsRoot section p path → ⊥) → IsTaken path (p ∷ ps)
    earlier : {p : ℕ} {ps : List ℕ} → IsTaken path ps → (BindsRoot section p path → ⊥) → IsTaken path (p ∷ ps)

  -- the path is taken on every walk to the point
  abbrev pub IsSurelyHeld : ℕ → LockPath → Type 0
  IsSurelyHeld p path = (ps : List ℕ) → Walk (skeleton section) ps p → IsTaken path ps

-- the sets of wanted paths, in any section with these points, and those of surely held paths
abbrev pub AreWanted : Points → List ℕ → List PathSet → Type 0
AreWanted x ranks sets =
    (program : Typed) (section : Section) → ArePoints program section x → AreSets program section (IsWanted program section ranks) sets

abbrev pub AreSurelyHeld : Points → List ℕ → List PathSet → Type 0
AreSurelyHeld x ranks sets =
    (program : Typed) (section : Section) → ArePoints program section x → AreSets program section (IsSurelyHeld program section ranks) sets
