-- Visits of accesses, in terms of values of the code. Nobody has to believe these.
use Rattle.std.specs.Prelude.{◌≡◌, ℕ, true, List, Option, None}
use Rattle.std.specs.Option.{option_map, IfSome}
use Rattle.std.specs.List.{flat_map}
use Rattle.core_lang.specs.declared.tree.Condition.{Condition}
use Rattle.core_lang.specs.declared.tree.Operation.{Operation}
use Rattle.flow.specs.Points.{Point}
use Rattle.locks.specs.Accesses.{Access, Target, field, in_condition}
use Rattle.locks.specs.Theory.Lists.{in_operand}
use Rattle.locks.specs.LockPaths.{LockPath, all_final}
use Rattle.lockpaths.specs.declared.finder.Base.{Base}
use Rattle.lockpaths.specs.declared.finder.Finder.{Finder}
use Rattle.lockpaths.specs.declared.found.Destination.{Destination}
use Rattle.lockpaths.specs.Working.Gathering.{path_by, gathered, gathered_at, with_accesses_of, with_owner, with_owners}
use Rattle.lockpaths.specs.Working.Places.{IsPlace, path_at}
use Rattle.lockpaths.specs.Working.Told.{Seen, Told}

abbrev pub target_of : Finder → Told → Target → Option LockPath
target_of f t target = path_by f.program.now f.section.now t.table target

abbrev pub over : Finder → Told → List Access → Told
over f t accesses = record { table = t.table; gathered = gathered f.program.now f.section.now t.table t.gathered accesses }

abbrev pub over_point : Finder → Told → Point → Told
over_point f t point = record { table = t.table; gathered = with_accesses_of f.program.now f.section.now t.table t.gathered point }

abbrev pub over_points : Finder → Told → List Point → Told
over_points f t points = record { table = t.table; gathered = gathered_at f.program.now f.section.now t.table t.gathered points }

abbrev pub over_owner : Finder → Told → Point → Told
over_owner f t point = record { table = t.table; gathered = with_owner f.section.now t.gathered point }

abbrev pub over_owners : Finder → Told → List Point → Told
over_owners f t points = record { table = t.table; gathered = with_owners f.section.now t.gathered points }

-- if a base is marked as having a field that is not final, it has one
abbrev pub IsTold : Base → Type 0
IsTold base = base.is_behind ≡ true → all_final base.fields.now ≡ None

-- this is the lock path of a field of a base
abbrev pub IsLockOf : Finder → Told → ℕ → ℕ → Base → Seen → Option Destination → Type 0
IsLockOf f t structure number base new place =
    IfSome place (IsPlace new.known.paths)
    × (IsTold base → option_map (path_at new.known.paths) place ≡ target_of f t (field base.local base.fields.now structure number))

-- the accesses of conditions, one after another
abbrev pub in_all : List Condition → List Access
in_all conditions = flat_map in_condition conditions

abbrev pub in_operands : List Operation → List Access
in_operands operations = flat_map in_operand operations
