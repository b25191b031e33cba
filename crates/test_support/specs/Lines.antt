-- Lines of faults.
use Rattle.std.specs.Prelude.{◌≡◌, ℕ, List, String, codes, string_bytes}
use Rattle.source.specs.declared.fault.Fault.{Fault}
use Rattle.source.specs.Faults.{fault_text}

-- the line of a fault of the text, in a file named `F`
abbrev pub IsLineOf : {Z : Type 0} → List ℕ → Fault → String Z → Type 0
IsLineOf text fault line = string_bytes line ≡ fault_text (codes "F") text fault
