-- The list has no numbers with a fraction, so its text is known.
use Rattle.std.proofs.Common.{◌≡◌, ℕ, List, [], ◌∷◌, ◌++◌, Option, Some, None, false, map, refl}
use Rattle.std.specs.List.{flat_map}
use Rattle.explanation.specs.Notes.{Note}
use Rattle.explanation.specs.Warnings.{Warning}
use Rattle.explanations.specs.Told.{Told, faulty, accepted}
use Rattle.serde_json.specs.Data.{Data}
use Rattle.serde_json.specs.View.{items_of}
use Rattle.serde_json.specs.Written.{has_float, items_have_float}
use Rattle.source.specs.declared.fault.Fault.{Fault}
use Rattle.source.specs.declared.mistake.Mistake.{Mistake}
use Rattle.language_server.specs.Diagnostics.{related_of_note, note_related, fault_data, further_data, warning_data, diagnostics_data}

none_before : (uri text : List ℕ) (start : Option ℕ) (words : List ℕ) (rest : List Data) → items_have_float (items_of rest) ≡ false →
    items_have_float (items_of (related_of_note uri text start words ++ rest)) ≡ false
none_before uri text (Some start) words rest none = none
none_before uri text None words rest none = none

none_in_related : (uri text : List ℕ) (notes : List Note) → items_have_float (items_of (flat_map (note_related uri text) notes)) ≡ false
none_in_related uri text [] = refl
none_in_related uri text (note ∷ notes) = none_before uri text note.start note.words _ (none_in_related uri text notes)

none_in_fault : (uri text : List ℕ) (fault : Fault) (notes : List Note) → has_float (fault_data uri text fault notes) ≡ false
none_in_fault uri text fault notes = rw (none_in_related uri text notes) refl

none_in_further : (text : List ℕ) (faults : List Mistake) → items_have_float (items_of (map (further_data text) faults)) ≡ false
none_in_further text [] = refl
none_in_further text (fault ∷ faults) = none_in_further text faults

none_in_warnings : (text : List ℕ) (warnings : List Warning) → items_have_float (items_of (map (warning_data text) warnings)) ≡ false
none_in_warnings text [] = refl
none_in_warnings text (warning ∷ warnings) = none_in_warnings text warnings

pub none_in_told : (uri text : List ℕ) (told : Told) → has_float (diagnostics_data uri text told) ≡ false
none_in_told uri text (faulty fault notes further) = rw (none_in_fault uri text fault notes) (none_in_further text further.faults)
none_in_told uri text (accepted notes warnings) = none_in_warnings text warnings
