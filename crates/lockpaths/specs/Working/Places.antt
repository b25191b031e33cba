-- Lock paths by the numbers of their normal forms. Nobody has to believe these.
use Rattle.std.specs.Prelude.{ℕ, ◌<◌, ◌≤◌, ◌&&◌, Bool, List, [], map, length, get_or, Option, ⊤}
use Rattle.std.specs.List.{All}
use Rattle.source.specs.declared.mistake.Mistake.{Mistake}
use Rattle.locks.specs.declared.path.Root.{Root}
use Rattle.locks.specs.declared.path.Root.TheVariants as root
use Rattle.locks.specs.LockPaths.{StablePath, LockPath, same_root, same_numbers}
use Rattle.lockpaths.specs.Working.Nodes.{nowhere}
use Rattle.lockpaths.specs.declared.found.Start.{Start}
use Rattle.lockpaths.specs.declared.found.Start.TheVariants.{GlobalLock, WholeClass, Form}
use Rattle.lockpaths.specs.declared.found.Destination.{Destination}
use Rattle.lockpaths.specs.Working.Gathering.{Gathered}

module _ (paths : List StablePath) where
  abbrev pub root_at : Start → Root
  root_at GlobalLock = root.GlobalLock
  root_at (WholeClass s) = root.WholeClass s
  root_at (Form n) = root.Local (get_or paths n nowhere).root

  abbrev pub finals_at : Start → List ℕ
  finals_at GlobalLock = []
  finals_at (WholeClass s) = []
  finals_at (Form n) = (get_or paths n nowhere).finals

  -- the lock path with this start and class
  abbrev pub path_at : Destination → LockPath
  path_at p = record { root = root_at p.start; finals = finals_at p.start; class = p.class }

  -- two starts have equal roots and finals
  abbrev pub begins_alike : Start → Start → Bool
  begins_alike a b = same_root (root_at a) (root_at b) && same_numbers (finals_at a) (finals_at b)

  abbrev pub IsNumbered : Start → Type 0
  IsNumbered GlobalLock = ⊤
  IsNumbered (WholeClass s) = ⊤
  IsNumbered (Form n) = n < length paths

  abbrev pub IsPlace : Destination → Type 0
  IsPlace p = IsNumbered p.start

  -- the places that were found: at most 65, each with a valid node
  pub record AreFound (places : List Destination) : Type 0 where
    pub few : length places ≤ 65
    pub within : All IsPlace places

  abbrev pub gathered_of : List Destination → List ℕ → List ℕ → Option Mistake → Gathered
  gathered_of places numbers ends least = record { paths = map path_at places; numbers = numbers; ends = ends; least = least }
