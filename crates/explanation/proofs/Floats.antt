-- The objects have no fractional numbers, so that their text is known.
use Rattle.std.proofs.Common.{◌≡◌, ℕ, List, [], ◌∷◌, Option, Some, None, false, map, refl}
use Rattle.explanation.specs.Further.{Further}
use Rattle.explanation.specs.Notes.{Note}
use Rattle.explanation.specs.Warnings.{Warning}
use Rattle.serde_json.specs.View.{items_of}
use Rattle.serde_json.specs.Written.{has_float, items_have_float}
use Rattle.source.specs.declared.fault.Fault.{Fault}
use Rattle.source.specs.declared.mistake.Mistake.{Mistake}
use Rattle.explanation.specs.Json.{told_data, note_data, warning_data, further_fault_data, fault_data, accepted_data}

none_in_told : (text : List ℕ) (start : Option ℕ) (words : List ℕ) → has_float (told_data text start words) ≡ false
none_in_told text (Some start) words = refl
none_in_told text None words = refl

none_in_notes : (text : List ℕ) (notes : List Note) → items_have_float (items_of (map (note_data text) notes)) ≡ false
none_in_notes text [] = refl
none_in_notes text (note ∷ notes) = rw (none_in_told text note.start note.words, none_in_notes text notes) refl

none_in_further : (text : List ℕ) (faults : List Mistake) → items_have_float (items_of (map (further_fault_data text) faults)) ≡ false
none_in_further text [] = refl
none_in_further text (fault ∷ faults) = none_in_further text faults

pub none_in_fault : (file text : List ℕ) (fault : Fault) (notes : List Note) (further : Further) →
    has_float (fault_data file text fault notes further) ≡ false
none_in_fault file text fault notes further = rw (none_in_further text further.faults, none_in_notes text notes) refl

none_in_warnings : (text : List ℕ) (warnings : List Warning) →
    items_have_float (items_of (map (warning_data text) warnings)) ≡ false
none_in_warnings text [] = refl
none_in_warnings text (warning ∷ warnings) = none_in_warnings text warnings

pub none_in_accepted : (file text : List ℕ) (notes : List Note) (warnings : List Warning) →
    has_float (accepted_data file text notes warnings) ≡ false
none_in_accepted file text notes warnings = rw (none_in_notes text notes, none_in_warnings text warnings) refl
