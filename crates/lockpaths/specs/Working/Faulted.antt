-- The faults of accesses one after another, and those of the locals that `where`s name. Nobody has to believe these:
-- `locks` defines the faults.
use Rattle.std.specs.Prelude.{ℕ, ◌==◌, if◌then◌else◌, List, [], ◌∷◌, ◌++◌, length, Option, Some, None}
use Rattle.std.specs.List.{flat_map}
use Rattle.source.specs.declared.fault.Code.TheVariants.{UnstableBase, LimitExceeded}
use Rattle.source.specs.declared.mistake.Mistake.{Mistake}
use Rattle.core_lang.specs.declared.tree.Section.{Section}
use Rattle.core_lang.specs.declared.typed.Typed.{Typed}
use Rattle.locks.specs.Accesses.{Access, accesses}
use Rattle.flow.specs.Points.{Point, points}
use Rattle.locks.specs.Faults.{PATH_LIMIT, Named, where_at}
use Rattle.locks.specs.LockPaths.{StablePath, LockPath, stable, lock_path, paths_of, each_once}
use Rattle.lockpaths.specs.Working.Gathering.{is_in}

-- the fault of an access that starts at this byte and has this path, if any, after accesses with these paths
abbrev pub fault_of : List LockPath → ℕ → Option LockPath → List Mistake
fault_of before start None = record { code = UnstableBase; start = start } ∷ []
fault_of before start (Some path) =
    if is_in path before then []
    else if length (each_once before) == PATH_LIMIT then record { code = LimitExceeded; start = start } ∷ []
    else []

module _ (program : Typed) (section : Section) where
  -- the faults of accesses after others
  abbrev pub faults_behind : List Access → List Access → List Mistake
  faults_behind before [] = []
  faults_behind before (a ∷ rest) =
      fault_of (paths_of program section before) a.start (lock_path program section a) ++ faults_behind (before ++ a ∷ []) rest

-- the fault of a local that a `where` names at this byte, unless it is a stable path
abbrev pub fault_unless : ℕ → Option StablePath → List Mistake
fault_unless start None = record { code = UnstableBase; start = start } ∷ []
fault_unless start (Some path) = []

module _ (section : Section) where
  abbrev pub where_fault : Option Named → List Mistake
  where_fault None = []
  where_fault (Some owner) = fault_unless owner.start (stable section owner.local [])

  abbrev pub owner_fault : Point → List Mistake
  owner_fault p = where_fault (where_at p)

abbrev pub faults_in : Typed → Section → List Mistake
faults_in program section = faults_behind program section [] (accesses section) ++ flat_map (owner_fault section) (points section)

abbrev pub faults_of : Typed → List Mistake
faults_of program = flat_map (faults_in program) program.sections.items
