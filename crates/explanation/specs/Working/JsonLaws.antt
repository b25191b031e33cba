-- A law of the JSON of every fault.
use Rattle.std.specs.Prelude.{◌≡◌, ◌<◌, ℕ, List, All, None, take}
use Rattle.explanation.specs.Further.{nothing_further}
use Rattle.explanation.specs.Notes.{Note}
use Rattle.source.specs.declared.fault.Fault.{Fault}
use Rattle.explanation.specs.Json.{WORD, fault_json}

-- the JSON of a fault at the beginning of a text, with notes without places and without further faults, is the same for
-- each prefix of the text that is longer than what is read
abbrev pub FaultByFirstBytes : Type 0
FaultByFirstBytes = (count : ℕ) (file text : List ℕ) (fault : Fault) (notes : List Note) → WORD < count → fault.start ≡ 0 →
    All (λ (note : Note). note.start ≡ None) notes →
    fault_json file (take count text) fault notes nothing_further ≡ fault_json file text fault notes nothing_further
