-- The text that explains a fault, and the text of a program without one.
use Rattle.std.specs.Prelude.{ℕ, List, ◌++◌, codes}
use Rattle.std.specs.List.{flat_map}
use Rattle.code.specs.Listing.{line}
use Rattle.source.specs.declared.fault.Fault.{Fault}
use Rattle.source.specs.Faults.{fault_text}
use Rattle.explanation.specs.Further.{Further, further_text}
use Rattle.explanation.specs.Notes.{Note, note_text}
use Rattle.explanation.specs.Remedies.{remedy_text}
use Rattle.explanation.specs.Shown.{shown_place}
use Rattle.explanation.specs.Warnings.{Warning, warning_text}

-- the line of the fault, its place in the source, the notes, the remedy, and further faults
abbrev pub explanation_text : List ℕ → List ℕ → Fault → List Note → Further → List ℕ
explanation_text file text fault notes further =
    line (fault_text file text fault) ++ shown_place text fault.start ++ flat_map (note_text file text) notes ++ remedy_text fault.code
    ++ further_text file text further

-- the text of a program without a fault: that it is accepted, and the notes; then its warnings
abbrev pub accepted_text : List ℕ → List ℕ → List Note → List Warning → List ℕ
accepted_text file text notes warnings =
    line (codes "accepted") ++ flat_map (note_text file text) notes ++ flat_map (warning_text file text) warnings
