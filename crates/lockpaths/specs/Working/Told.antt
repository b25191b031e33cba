-- The results for a section, with the replacements of its locals. Nobody has to believe these.
use Rattle.std.specs.Prelude.{ℕ, List, Option}
use Rattle.locks.specs.LockPaths.{LockPath}
use Rattle.lockpaths.specs.Working.Forms.{Replacement}
use Rattle.lockpaths.specs.Working.States.{Known}
use Rattle.lockpaths.specs.Working.Gathering.{Gathered, ended, met, with_new}

-- the results, with the numbers of the normal forms
pub record Seen : Type 0 where
  pub known : Known
  pub gathered : Gathered

pub record Told : Type 0 where
  pub table : List Replacement
  pub gathered : Gathered

abbrev pub seen : Seen → Told
seen s = record { table = s.known.table; gathered = s.gathered }

abbrev pub met_told : Told → ℕ → Option LockPath → Told
met_told t start path = record { table = t.table; gathered = met t.gathered start path }

abbrev pub told_with_new : Told → ℕ → LockPath → Told
told_with_new t start path = record { table = t.table; gathered = with_new t.gathered start path }

abbrev pub ended_told : Told → Told
ended_told t = record { table = t.table; gathered = ended t.gathered }
