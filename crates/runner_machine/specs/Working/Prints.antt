-- The effect of printing.
use Rattle.std.specs.Prelude.{◌≡◌, ℤ, List, Result, Ok, Err}
use Rattle.core_lang.specs.declared.value.Value.{Value}
use Rattle.core_lang.specs.declared.value.Failure.{Failure}
use Rattle.code.specs.Machine.{printed}

-- the value is appended to the prints, or the error says why it can't be
abbrev pub IsPrinted : List ℤ → Value → Result (Unit {0}) Failure → List ℤ → Type 0
IsPrinted old v (Ok done) new = printed old v ≡ Ok new
IsPrinted old v (Err failure) new = (printed old v ≡ Err failure) × (new ≡ old)
