-- Stable paths that are numbered, by the steps that lead to them. Nobody has to believe these.
use Rattle.std.specs.Prelude.{◌≡◌, ℕ, ◌<◌, ◌==◌, ◌&&◌, Bool, List, [], ◌∷◌, ◌++◌, fold, get_or, slice_get, Some, ⊤}
use Rattle.locks.specs.LockPaths.{StablePath, same_numbers}
use Rattle.lockpaths.specs.declared.nodes.PathEdge.{PathEdge}
use Rattle.lockpaths.specs.declared.nodes.PathEdge.TheVariants.{Local, Final}

-- a local by itself
abbrev pub local_path : ℕ → StablePath
local_path local = record { root = local; finals = [] }

-- the path that stands for nodes past the last one
abbrev pub nowhere : StablePath
nowhere = local_path 0

-- a path followed by final references
abbrev pub onto : StablePath → List ℕ → StablePath
onto path numbers = record { root = path.root; finals = path.finals ++ numbers }

abbrev pub longer : StablePath → ℕ → StablePath
longer path number = onto path (number ∷ [])

-- the path to which a step leads
abbrev pub path_by : List StablePath → PathEdge → StablePath
path_by paths (Local local) = local_path local
path_by paths (Final node number) = longer (get_or paths node nowhere) number

abbrev pub with_step : List StablePath → PathEdge → List StablePath
with_step paths step = paths ++ path_by paths step ∷ []

abbrev pub paths_of : List PathEdge → List StablePath
paths_of steps = fold with_step [] steps

-- a step leads on from one of the given number of nodes
abbrev pub IsAfter : ℕ → PathEdge → Type 0
IsAfter count (Local local) = ⊤
IsAfter count (Final node number) = node < count

-- each step leads on from a node before it, and is in the list once
pub record AreSteps (steps : List PathEdge) : Type 0 where
  pub after : (k : ℕ) (step : PathEdge) → slice_get steps k ≡ Some step → IsAfter k step
  pub once : (i j : ℕ) (step : PathEdge) → slice_get steps i ≡ Some step → slice_get steps j ≡ Some step → i ≡ j

-- paths were appended; the former ones keep their numbers
abbrev pub IsGrown : List StablePath → List StablePath → Type 0
IsGrown old new = (more : List StablePath) × (new ≡ old ++ more)

abbrev pub IsNodeOf : List StablePath → StablePath → ℕ → Type 0
IsNodeOf paths path node = slice_get paths node ≡ Some path

abbrev pub same_stable : StablePath → StablePath → Bool
same_stable a b = (a.root == b.root) && same_numbers a.finals b.finals
