-- The results of visiting accesses one by one. Nobody has to believe these: `locks` defines lock paths and their
-- faults.
use Rattle.std.specs.Prelude.{ℕ, ◌+◌, nat_lt, ◌==◌, ◌||◌, Bool, false, if◌then◌else◌, List, [], ◌∷◌, ◌++◌, fold}
use Rattle.std.specs.Prelude.{length, slice_get, Option, Some, None}
use Rattle.std.specs.Option.{option_map}
use Rattle.source.specs.declared.fault.Code.{Code}
use Rattle.source.specs.declared.fault.Code.TheVariants.{UnstableBase, LimitExceeded}
use Rattle.source.specs.declared.mistake.Mistake.{Mistake}
use Rattle.source.specs.Mistakes.{lesser}
use Rattle.core_lang.specs.declared.shape.Array.{Array}
use Rattle.core_lang.specs.declared.tree.Section.{Section}
use Rattle.core_lang.specs.declared.typed.Cell.{Cell}
use Rattle.core_lang.specs.declared.typed.LockClass.{LockClass}
use Rattle.core_lang.specs.declared.typed.Protection.{Protection}
use Rattle.core_lang.specs.declared.typed.Typed.{Typed}
use Rattle.core_lang.specs.Typing.{lookup}
use Rattle.flow.specs.Points.{Point, points}
use Rattle.locks.specs.Accesses.{Access, Target, global, element, field, accesses_at}
use Rattle.locks.specs.Faults.{PATH_LIMIT, Named, where_at}
use Rattle.locks.specs.Locks.{protection_of}
use Rattle.locks.specs.LockPaths.{StablePath, LockPath, stable, under, global_path, class_if_global, same_path}
use Rattle.lockpaths.specs.Working.Forms.{Replacement, form_by, replacements_at}

-- the paths so far, each once, the number of the path of each access, the number of accesses at the end of each point,
-- and the least fault
pub record Gathered : Type 0 where
  pub paths : List LockPath
  pub numbers : List ℕ
  pub ends : List ℕ
  pub least : Option Mistake

-- the number of a path among some that are numbered from k on
abbrev pub place_from : LockPath → ℕ → List LockPath → Option ℕ
place_from path k [] = None
place_from path k (other ∷ others) = if same_path path other then Some k else place_from path (k + 1) others

-- a path is one of these
abbrev pub is_in : LockPath → List LockPath → Bool
is_in path [] = false
is_in path (x ∷ xs) = same_path path x || is_in path xs

-- the results with a further fault
abbrev pub blamed : Gathered → Code → ℕ → Gathered
blamed g code start = record g { least = lesser g.least (record { code = code; start = start }) }

-- the results with the path of an access, which gets the next number
abbrev pub with_path : Gathered → LockPath → Gathered
with_path g path = record g { paths = g.paths ++ path ∷ []; numbers = g.numbers ++ length g.paths ∷ [] }

-- the results with a new path; after the first that exceeds the limit, none is kept
abbrev pub with_new : Gathered → ℕ → LockPath → Gathered
with_new g start path =
    if nat_lt (length g.paths) PATH_LIMIT then with_path g path
    else if length g.paths == PATH_LIMIT then blamed (with_path g path) LimitExceeded start
    else g

abbrev pub with_known : Gathered → ℕ → LockPath → Option ℕ → Gathered
with_known g start path (Some i) = record g { numbers = g.numbers ++ i ∷ [] }
with_known g start path None = with_new g start path

-- the results with an access that starts at this byte and has this path, if any
abbrev pub met : Gathered → ℕ → Option LockPath → Gathered
met g start None = blamed g UnstableBase start
met g start (Some path) = with_known g start path (place_from path 0 g.paths)

-- the results at the end of a point
abbrev pub ended : Gathered → Gathered
ended g = record g { ends = g.ends ++ length g.numbers ∷ [] }

-- the final references of an annotation, if there is one
abbrev pub through_of : Option Protection → List ℕ
through_of None = []
through_of (Some p) = p.through.items

-- the lock path of a field of a base in a section, given the normal form of the base with the annotation after it, if
-- that is a stable path
abbrev pub field_path : Typed → Section → ℕ → ℕ → Option StablePath → Option LockPath
field_path program section s f base =
    lookup (protection_of program s f) (λ (p : Protection). lookup (slice_get program.classes.items p.class) (λ (c : LockClass). under section c p base))

module _ (program : Typed) (section : Section) (rs : List Replacement) where
  -- the lock path of a target, with normal forms by the table
  abbrev pub path_by : Target → Option LockPath
  path_by (global cell) = lookup (slice_get program.cells.items cell) (λ (c : Cell). option_map global_path (class_if_global program c.owner))
  path_by (element array) = lookup (slice_get program.shape.arrays.items array) (λ (x : Array). Some (global_path x.class))
  path_by (field local base s f) = field_path program section s f (option_map (form_by rs (through_of (protection_of program s f))) (stable section local base))

  abbrev pub with_access : Gathered → Access → Gathered
  with_access g a = met g a.start (path_by a.target)

  abbrev pub gathered : Gathered → List Access → Gathered
  gathered g accesses = fold with_access g accesses

  -- the results with the accesses of a point
  abbrev pub with_accesses_of : Gathered → Point → Gathered
  with_accesses_of g p = ended (gathered g (accesses_at p))

  abbrev pub gathered_at : Gathered → List Point → Gathered
  gathered_at g ps = fold with_accesses_of g ps

-- the results with the fault of a local that a `where` names at this byte, unless it is a stable path
abbrev pub blamed_unless : Gathered → ℕ → Option StablePath → Gathered
blamed_unless g start None = blamed g UnstableBase start
blamed_unless g start (Some path) = g

module _ (section : Section) where
  abbrev pub with_where : Gathered → Option Named → Gathered
  with_where g None = g
  with_where g (Some owner) = blamed_unless g owner.start (stable section owner.local [])

  -- the results with the `where` of a point
  abbrev pub with_owner : Gathered → Point → Gathered
  with_owner g p = with_where g (where_at p)

  abbrev pub with_owners : Gathered → List Point → Gathered
  with_owners g ps = fold with_owner g ps

abbrev pub nothing_yet : Option Mistake → Gathered
nothing_yet least = record { paths = []; numbers = []; ends = []; least = least }

-- the results for a whole section, after the least fault of the sections before it
abbrev pub gathered_in : Typed → Section → Option Mistake → Gathered
gathered_in program section least =
    with_owners section (gathered_at program section (replacements_at section (points section)) (nothing_yet least) (points section)) (points section)
