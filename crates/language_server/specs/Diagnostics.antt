-- The diagnostics of a text, as the protocol's list of `Diagnostic`.
use Rattle.std.specs.Prelude.{◌≡◌, ℕ, List, [], ◌∷◌, ◌++◌, Option, Some, None, codes, map, string_bytes}
use Rattle.std.specs.List.{flat_map}
use Rattle.explanation.specs.Notes.{Note}
use Rattle.explanation.specs.Remedies.{remedy}
use Rattle.explanation.specs.Warnings.{Warning}
use Rattle.explanation.specs.Json.{end_of}
use Rattle.explanations.specs.Told.{Told, faulty, accepted, IsToldOf}
use Rattle.lsp_texts.specs.Ranges.{range_data}
use Rattle.serde_json.specs.Data.{Data, array, number, object, string, unsigned, member, no_members}
use Rattle.serde_json.specs.View.{items_of}
use Rattle.source.specs.Codes.{code_name, code_text}
use Rattle.source.specs.Faults.{detail_text}
use Rattle.source.specs.declared.fault.Fault.{Fault}
use Rattle.source.specs.declared.mistake.Mistake.{Mistake}

-- the range of the word that begins at the place
abbrev pub word_range : List ℕ → ℕ → Data
word_range text start = range_data text start (end_of text start)

-- the protocol's severities
abbrev pub ERROR : ℕ
ERROR = 1

-- the protocol's severity of a warning
abbrev pub WARNING : ℕ
WARNING = 2

-- the name of the tool that a diagnostic is from
abbrev pub source : Data
source = string (codes "autolock")

-- ---- a fault

-- words in a line of their own, after others
abbrev pub next_line : List ℕ → List ℕ
next_line words = codes "\n" ++ words

-- a note without a place has its line in the message
abbrev pub line_of_note : Option ℕ → List ℕ → List ℕ
line_of_note None words = next_line words
line_of_note (Some start) words = []

-- the line of a note in the message, if the note has no place
abbrev pub note_line : Note → List ℕ
note_line note = line_of_note note.start note.words

-- the fault's text with its detail, the notes without a place, and the suggested fix
abbrev pub fault_message : Fault → List Note → List ℕ
fault_message fault notes =
    code_text fault.code ++ detail_text (string_bytes fault.detail) ++ flat_map note_line notes
    ++ next_line (remedy fault.code)

-- {"location":{"range":RANGE,"uri":URI},"message":WORDS}
abbrev pub related_data : List ℕ → List ℕ → ℕ → List ℕ → Data
related_data uri text start words =
    object (member (codes "location") (object (member (codes "range") (word_range text start)
    (member (codes "uri") (string uri) no_members)))
    (member (codes "message") (string words) no_members))

-- a note with a place is related information
abbrev pub related_of_note : List ℕ → List ℕ → Option ℕ → List ℕ → List Data
related_of_note uri text (Some start) words = related_data uri text start words ∷ []
related_of_note uri text None words = []

-- the related information of a note, if the note has a place
abbrev pub note_related : List ℕ → List ℕ → Note → List Data
note_related uri text note = related_of_note uri text note.start note.words

-- {"code":CODE,"message":MESSAGE,"range":RANGE,"relatedInformation":[..],"severity":1,"source":"autolock"}
abbrev pub fault_data : List ℕ → List ℕ → Fault → List Note → Data
fault_data uri text fault notes =
    object (member (codes "code") (string (code_name fault.code))
    (member (codes "message") (string (fault_message fault notes))
    (member (codes "range") (word_range text fault.start)
    (member (codes "relatedInformation") (array (items_of (flat_map (note_related uri text) notes)))
    (member (codes "severity") (number (unsigned ERROR))
    (member (codes "source") source no_members))))))

-- ---- a further fault

-- its text, and the suggested fix
abbrev pub further_message : Mistake → List ℕ
further_message fault = code_text fault.code ++ next_line (remedy fault.code)

-- {"code":CODE,"message":MESSAGE,"range":RANGE,"severity":1,"source":"autolock"}
abbrev pub further_data : List ℕ → Mistake → Data
further_data text fault =
    object (member (codes "code") (string (code_name fault.code))
    (member (codes "message") (string (further_message fault))
    (member (codes "range") (word_range text fault.start)
    (member (codes "severity") (number (unsigned ERROR))
    (member (codes "source") source no_members)))))

-- ---- a warning

-- {"message":WORDS,"range":RANGE,"severity":2,"source":"autolock"}
abbrev pub warning_data : List ℕ → Warning → Data
warning_data text warning =
    object (member (codes "message") (string warning.words)
    (member (codes "range") (word_range text warning.start)
    (member (codes "severity") (number (unsigned WARNING))
    (member (codes "source") source no_members))))

-- ---- the list

-- a diagnostic for a fault and for each further one; for an accepted text one for each warning
abbrev pub diagnostics_data : List ℕ → List ℕ → Told → Data
diagnostics_data uri text (faulty fault notes further) =
    array (items_of (fault_data uri text fault notes ∷ map (further_data text) further.faults))
diagnostics_data uri text (accepted notes warnings) = array (items_of (map (warning_data text) warnings))

-- these are the diagnostics of the report on the text
abbrev pub AreDiagnosticsOf : List ℕ → List ℕ → Data → Type 0
AreDiagnosticsOf uri text found = (told : Told) × IsToldOf text told × (found ≡ diagnostics_data uri text told)
