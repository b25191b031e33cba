-- The numbers of paths, cut at the ends of points, and sets of them. Nobody has to believe these: `locks` defines what
-- a point uses.
use Rattle.std.specs.Prelude.{◌≡◌, ℕ, ◌-◌, ◌<◌, ◌≤◌, ◌==◌, ◌||◌, Bool, false, List, [], ◌∷◌, map, length, take, drop, ⊤}
use Rattle.std.specs.List.{All, AllZip}
use Rattle.core_lang.specs.declared.tree.Section.{Section}
use Rattle.core_lang.specs.declared.typed.Typed.{Typed}
use Rattle.locks.specs.declared.path_set.PathSet.{PathSet}
use Rattle.locks.specs.LockPaths.{lock_path_of}
use Rattle.locks.specs.Sets.{has}
use Rattle.lockpaths.specs.declared.table.SectionPaths.{SectionPaths}
use Rattle.lockpaths.specs.Working.Gathering.{Gathered}
use Rattle.lockpaths.specs.Paths.{AreSectionPaths}

-- the number is one of these
abbrev pub is_number : ℕ → List ℕ → Bool
is_number i [] = false
is_number i (n ∷ ns) = (i == n) || is_number i ns

abbrev pub IsSetOf : PathSet → List ℕ → Type 0
IsSetOf set numbers = (i : ℕ) → has set i ≡ is_number i numbers

-- the numbers from a start on, cut at these ends
abbrev pub cut : ℕ → List ℕ → List ℕ → List (List ℕ)
cut start numbers [] = []
cut start numbers (end ∷ ends) = take (end - start) (drop start numbers) ∷ cut end numbers ends

-- no end is less than the one before it, or greater than the limit
abbrev pub AreRising : ℕ → ℕ → List ℕ → Type 0
AreRising start limit [] = ⊤
AreRising start limit (end ∷ ends) = (start ≤ end) × (end ≤ limit) × AreRising end limit ends

-- the numbers fit into a set, and the ends cut them
pub record IsComplete (g : Gathered) : Type 0 where
  pub small : All (λ n. n < 64) g.numbers
  pub rising : AreRising 0 (length g.numbers) g.ends

-- the lock paths of a section are those that were found, with a set for each point
pub record IsFinished (g : Gathered) (x : SectionPaths) : Type 0 where
  pub paths : map lock_path_of x.paths.items ≡ g.paths
  pub of_access : x.of_access.items ≡ g.numbers
  pub used : AllZip IsSetOf x.used.items (cut 0 g.numbers g.ends)

-- the lock paths of sections, one after another
abbrev pub AreEach : Typed → List Section → List SectionPaths → Type 0
AreEach program sections found = AllZip (AreSectionPaths program) sections found
