-- A number that may not fit.
use Rattle.std.specs.Prelude.{ℤ, Option, Some, None, Result, Ok, Err}
use Rattle.core_lang.specs.declared.value.Value.{Value}
use Rattle.core_lang.specs.declared.value.Value.TheVariants.{Int}
use Rattle.core_lang.specs.declared.value.Trap.TheVariants.{Overflow}
use Rattle.core_lang.specs.declared.value.Failure.{Failure}
use Rattle.core_lang.specs.declared.value.Failure.TheVariants.{Trap}

-- the number, or the trap if there is none
abbrev pub fitted_of : Option ℤ → Result Value Failure
fitted_of (Some n) = Ok (Int n)
fitted_of None = Err (Trap Overflow)
