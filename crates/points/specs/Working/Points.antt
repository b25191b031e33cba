-- The points of a section, and the sets of lock paths at each.
use Rattle.std.specs.Prelude.{◌≡◌, ◌↔◌, ℕ, true, List, length, map, slice_get, Some}
use Rattle.std.specs.Bool.{Decides}
use Rattle.std.specs.List.{Contains}
use Rattle.core_lang.specs.declared.tree.Section.{Section}
use Rattle.core_lang.specs.declared.typed.Typed.{Typed}
use Rattle.flow.specs.Skeletons.{skeleton}
use Rattle.flow.specs.Flow.{Follows, Before}
use Rattle.flow.specs.Working.Parts.{skeleton_of}
use Rattle.locks.specs.LockPaths.{LockPath, Uses, IsInScope, BindsRoot, lock_paths}
use Rattle.locks.specs.declared.path_set.PathSet.{PathSet}
use Rattle.locks.specs.Sets.{has, AreSets}
use Rattle.points.specs.declared.table.Points.{Points}
use Rattle.points.specs.Used.{IsUsedBefore, IsUsedLater}

-- the points and the blocks that hold them, the classes of the lock paths, and for each point the paths whose root it
-- binds, that it uses, that are in scope before it, that an earlier point uses, and that a later point uses
pub record ArePoints (program : Typed) (section : Section) (x : Points) : Type 0 where
  pub parts : skeleton_of x.parts.items ≡ skeleton section
  pub classes : x.classes.items ≡ map (λ (path : LockPath). path.class) (lock_paths program section)
  pub bound : AreSets program section (BindsRoot section) x.bound.items
  pub used : AreSets program section (Uses program section) x.used.items
  pub in_scope : AreSets program section (IsInScope section) x.in_scope.items
  pub used_before : AreSets program section (IsUsedBefore program section) x.used_before.items
  pub used_later : AreSets program section (IsUsedLater program section) x.used_later.items

-- these are the points of the program's section with this number
abbrev pub ArePointsOf : Typed → ℕ → Points → Type 0
ArePointsOf program k x = (section : Section) → slice_get program.sections.items k ≡ Some section → ArePoints program section x

-- the points of each section of a program, in the order of the sections
pub record AreAllPointsOf (program : Typed) (all : List Points) : Type 0 where
  pub sections : length all ≡ length program.sections.items
  pub each : (k : ℕ) (x : Points) → slice_get all k ≡ Some x → ArePointsOf program k x

-- in any section with these points, a pair is listed exactly if its second point follows its first
abbrev pub ArePairs : Points → List (ℕ × ℕ) → Type 0
ArePairs x list =
    (program : Typed) (section : Section) → ArePoints program section x → (p q : ℕ) → Contains list (p, q) ↔ Follows (skeleton section) p q

-- the root of path i is bound at some point after p
abbrev pub IsBoundLater : Points → ℕ → ℕ → Type 0
IsBoundLater x p i =
    (q : ℕ) × (set : PathSet) × Before (skeleton_of x.parts.items) p q × (slice_get x.bound.items q ≡ Some set) × (has set i ≡ true)

-- for each point the set of the paths whose root is bound at some later point
abbrev pub AreBoundLater : Points → List PathSet → Type 0
AreBoundLater x sets =
    (length sets ≡ length x.bound.items)
    × ((p i : ℕ) (set : PathSet) → slice_get sets p ≡ Some set → Decides (has set i) (IsBoundLater x p i))
