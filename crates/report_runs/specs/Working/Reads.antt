-- What parts of a text are read as. Nobody has to believe this file.
use Rattle.std.specs.Prelude.{◌≡◌, ℕ, List, Result, Ok, Err}
use Rattle.report_runs.specs.declared.expectation_reading.Stopped.{Stopped}
use Rattle.report_runs.specs.declared.expectation_reading.Stopped.TheVariants.{At, NoMemory}

-- what was read, as the definitions have it, or the text at which reading stopped
abbrev pub Reads : {X Y : Type 0} → (X → Y) → Result X Stopped → Result Y (List ℕ) → Type 0
Reads view (Ok x) reading = reading ≡ Ok (view x)
Reads view (Err (At stop)) reading = reading ≡ Err stop.now
Reads view (Err NoMemory) reading = Unit {0}
