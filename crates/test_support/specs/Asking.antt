-- The words that ask for a number of turns, and for steps.
use Rattle.std.specs.Prelude.{◌≡◌, ◌++◌, ◌<◌, ◌^◌, ℕ, List, None, false, codes}
use Rattle.std.specs.Str.Parse.{IsNumeral, digits_value, without_leading_plus}
use Rattle.driver_words.specs.declared.line.OutcomesOptions.{OutcomesOptions}

-- The word is `serial`, a blank, perhaps a plus, and digits that write this number, which has at most 64 bits.
abbrev pub IsSerial : List ℕ → ℕ → Type 0
IsSerial word turns =
    (digits : List ℕ) × (word ≡ codes "serial " ++ digits) × (IsNumeral 10 (without_leading_plus digits)) ×
    (digits_value 10 (without_leading_plus digits) ≡ turns) × (turns < 2 ^ 64)

-- The word is `simulate`, a blank and these steps.
abbrev pub IsSimulate : List ℕ → List ℕ → Type 0
IsSimulate word steps = word ≡ codes "simulate " ++ steps

-- How orders of calls are explored where the word is `outcomes`.
abbrev pub looking : OutcomesOptions
looking = record { turns = 1000; count = 1000; seed = 0; cells = None; answers = false; full = false; expect = None }
