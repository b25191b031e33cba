-- Laws of a run's locks, as the laws of `src/laws.rt` claim them.
use Rattle.std.specs.Prelude.{◌≡◌, ◌≢◌, ◌≤◌, ◌⊎◌, ℕ, List, length, slice_get, Some}
use Rattle.std.specs.List.{AllPairs, Contains}
use Rattle.core_lang.specs.declared.value.Value.{Value}
use Rattle.core_lang.specs.declared.tree.Section.{Section}
use Rattle.core_lang.specs.declared.typed.Typed.{Typed}
use Rattle.core_lang.specs.WellFormed.{IsWellFormed}
use Rattle.locks.specs.declared.lock.Lock.{Lock}
use Rattle.locks.specs.Faults.{HasSection}
use Rattle.locks.specs.Locks.{locks_of}
use Rattle.locks.specs.LockPaths.{LockPath, whole_class, lock_paths, Names, most_locks, Uses}
use Rattle.locks.specs.Order.{Precedes}
use Rattle.lockorder.specs.Edges.{AreRanksOf, RiseIn}
use Rattle.inserter.specs.Placement.{IsPath, IsPlacement}
use Rattle.points.specs.Wanted.{IsWanted}
use Rattle.inserter.specs.Working.Runs.{AreAllowed, IsListed, Asks, Run, executed}

-- a section of a well-formed program, ranks in which each edge rises, and allowed lists
pub record IsOrdered (program : Typed) (section : Section) (ranks : List ℕ) (lists : List (List ℕ)) : Type 0 where
  pub well_formed : IsWellFormed program
  pub here : HasSection program section
  pub ranked : AreRanksOf program ranks
  pub rise : RiseIn program ranks
  pub allowed : AreAllowed program section ranks lists

-- the lists of a placement of a well-formed program are such
abbrev pub PlacementsAreOrdered : Type 0
PlacementsAreOrdered =
    (program : Typed) (ranks : List ℕ) (placed : List (List (List ℕ))) (k : ℕ) (section : Section) (lists : List (List ℕ)) →
    IsWellFormed program → AreRanksOf program ranks → RiseIn program ranks → IsPlacement program ranks placed →
    slice_get program.sections.items k ≡ Some section → slice_get placed k ≡ Some lists → IsOrdered program section ranks lists

-- a claim on each run of each such section
abbrev pub InRuns : (Typed → Section → List ℕ → List (List ℕ) → ℕ → List Value → List Lock → Type 0) → Type 0
InRuns Claim =
    (program : Typed) (section : Section) (ranks : List ℕ) (lists : List (List ℕ)) (p : ℕ) (locals : List Value) (held : List Lock) →
    IsOrdered program section ranks lists → Run program section ranks lists p locals held →
    Claim program section ranks lists p locals held

-- a lock that it asks for comes after all that it holds
abbrev pub AsksRise : Typed → Section → List ℕ → List (List ℕ) → ℕ → List Value → List Lock → Type 0
AsksRise program section ranks lists p locals held =
    (lock other : Lock) → Asks program section ranks lists p locals held lock → Contains held other → Precedes ranks other lock

-- if a listed lock is not held, the run asks for a lock
abbrev pub AsksForSome : Typed → Section → List ℕ → List (List ℕ) → ℕ → List Value → List Lock → Type 0
AsksForSome program section ranks lists p locals held =
    (lock : Lock) → IsListed program section ranks lists p locals lock → (Contains held lock → ⊥) →
    (asked : Lock) × Asks program section ranks lists p locals held asked

-- if all listed locks are held, so is each lock named by a path that the point uses
abbrev pub UsedAreHeld : Typed → Section → List ℕ → List (List ℕ) → ℕ → List Value → List Lock → Type 0
UsedAreHeld program section ranks lists p locals held =
    ((lock : Lock) → IsListed program section ranks lists p locals lock → Contains held lock) →
    (path : LockPath) (lock : Lock) → Uses program section p path → Names path program.shape locals lock → Contains held lock

-- each lock that is held is one that a lock path of the section names
abbrev pub HeldAreNamed : Typed → Section → List ℕ → List (List ℕ) → ℕ → List Value → List Lock → Type 0
HeldAreNamed program section ranks lists p locals held =
    (lock : Lock) → Contains held lock →
    (i : ℕ) × (path : LockPath) × IsPath program section i path × Names path program.shape locals lock

-- no lock is held twice, and at most as many are held as the lock paths of the section can name
abbrev pub FewAreHeld : Typed → Section → List ℕ → List (List ℕ) → ℕ → List Value → List Lock → Type 0
FewAreHeld program section ranks lists p locals held =
    AllPairs ◌≢◌ held × (length held ≤ most_locks program.shape (lock_paths program section))

-- from the first point that wants a class which is taken whole to its end, a run holds every lock of the class: when it
-- holds all that is listed before such a point, and at all times after it has executed one
abbrev pub WholeClassesAreHeld : Type 0
WholeClassesAreHeld =
    (program : Typed) (section : Section) (ranks : List ℕ) (lists : List (List ℕ)) (p : ℕ) (locals : List Value) (held : List Lock) →
    IsOrdered program section ranks lists → (run : Run program section ranks lists p locals held) →
    (point number structure : ℕ) → IsWanted program section ranks point (whole_class number structure) →
    ((point ≡ p) × ((lock : Lock) → IsListed program section ranks lists p locals lock → Contains held lock))
    ⊎ Contains (executed program section ranks lists run) point →
    (lock : Lock) → Contains (locks_of program.shape number structure) lock → Contains held lock
