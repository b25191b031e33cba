-- The lock paths of a program: of each section, of each point, of each access.
use Rattle.std.specs.Prelude.{◌≡◌, ℕ, ◌≤◌, map, length, slice_get, Some}
use Rattle.core_lang.specs.declared.tree.Section.{Section}
use Rattle.core_lang.specs.declared.typed.Typed.{Typed}
use Rattle.locks.specs.Accesses.{accesses}
use Rattle.locks.specs.LockPaths.{Uses, lock_path, lock_path_of, lock_paths}
use Rattle.locks.specs.Faults.{PATH_LIMIT}
use Rattle.locks.specs.Sets.{AreSets}
use Rattle.lockpaths.specs.declared.table.SectionPaths.{SectionPaths}
use Rattle.lockpaths.specs.declared.table.Paths.{Paths}

-- the lock paths of a section, the set that each point uses, and the path of each access by its number
pub record AreSectionPaths (program : Typed) (section : Section) (x : SectionPaths) : Type 0 where
  pub paths : map lock_path_of x.paths.items ≡ lock_paths program section
  pub limit : length x.paths.items ≤ PATH_LIMIT
  pub used : AreSets program section (Uses program section) x.used.items
  pub of_access : map (slice_get (lock_paths program section)) x.of_access.items ≡ map (lock_path program section) (accesses section)

-- the lock paths of each section
pub record ArePaths (program : Typed) (paths : Paths) : Type 0 where
  pub sections : length paths.sections.items ≡ length program.sections.items
  pub each : (k : ℕ) (section : Section) (x : SectionPaths) → slice_get program.sections.items k ≡ Some section →
      slice_get paths.sections.items k ≡ Some x → AreSectionPaths program section x
