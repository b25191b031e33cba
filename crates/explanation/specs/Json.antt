-- The JSON of a fault that is explained, and of a program without one. `compact_text` is that of `serde_json`: the text
-- of data without spaces, with the members of each object ordered by their keys, and strings in quotes with the
-- shortest escapes.
use Rattle.std.specs.Prelude.{ℕ, ◌+◌, List, ◌++◌, Option, Some, None, true, false, length, max, min, map, take}
use Rattle.std.specs.Prelude.{drop, codes, string_bytes}
use Rattle.std.specs.List.{prefix_len}
use Rattle.code.specs.Listing.{line}
use Rattle.explanation.specs.Further.{Further}
use Rattle.explanation.specs.Notes.{Note}
use Rattle.explanation.specs.Remedies.{remedy}
use Rattle.explanation.specs.Warnings.{Warning}
use Rattle.serde_json.specs.Data.{Data, array, boolean, number, object, string, unsigned, member, no_members}
use Rattle.serde_json.specs.View.{items_of}
use Rattle.serde_json.specs.Written.{compact_text}
use Rattle.source.specs.declared.fault.Fault.{Fault}
use Rattle.source.specs.declared.mistake.Mistake.{Mistake}
use Rattle.source.specs.Codes.{code_name, code_text}
use Rattle.source.specs.Faults.{line_of, column_of, detail_text}
use Rattle.source.specs.Texts.{is_name_byte}

-- ---- places

-- the most bytes of a word that are read
abbrev pub WORD : ℕ
WORD = 64

-- the number of bytes from the place on that belong to one word: a name, a keyword or a number
abbrev pub word_length : List ℕ → ℕ → ℕ
word_length text at = prefix_len is_name_byte (take WORD (drop at text))

-- the end of the word that begins at the place, or of the one byte there; at the text's end the end itself
abbrev pub end_of : List ℕ → ℕ → ℕ
end_of text start = let at = min start (length text) in min (length text) (at + max 1 (word_length text at))

-- {"column":COL,"line":LINE}
abbrev pub position_data : List ℕ → ℕ → Data
position_data text at =
    object (member (codes "column") (number (unsigned (column_of text at))) (member (codes "line") (number (unsigned (line_of text at))) no_members))

-- ---- notes

-- {"end":POSITION,"start":POSITION,"text":WORDS}, or {"text":WORDS}
abbrev pub told_data : List ℕ → Option ℕ → List ℕ → Data
told_data text (Some start) words =
    object (member (codes "end") (position_data text (end_of text start)) (member (codes "start") (position_data text start)
    (member (codes "text") (string words) no_members)))
told_data text None words = object (member (codes "text") (string words) no_members)

-- the data of a note
abbrev pub note_data : List ℕ → Note → Data
note_data text note = told_data text note.start note.words

-- the list of notes
abbrev pub notes_data : List ℕ → List Note → Data
notes_data text notes = array (items_of (map (note_data text) notes))

-- ---- warnings

-- {"end":POSITION,"start":POSITION,"text":WORDS}
abbrev pub warning_data : List ℕ → Warning → Data
warning_data text warning = told_data text (Some warning.start) warning.words

-- the list of warnings
abbrev pub warnings_data : List ℕ → List Warning → Data
warnings_data text warnings = array (items_of (map (warning_data text) warnings))

-- ---- further faults

-- {"code":CODE,"end":POSITION,"start":POSITION,"text":WORDS}
abbrev pub further_fault_data : List ℕ → Mistake → Data
further_fault_data text fault =
    object (member (codes "code") (string (code_name fault.code))
    (member (codes "end") (position_data text (end_of text fault.start))
    (member (codes "start") (position_data text fault.start)
    (member (codes "text") (string (code_text fault.code)) no_members))))

-- the list of further faults
abbrev pub further_faults_data : List ℕ → List Mistake → Data
further_faults_data text faults = array (items_of (map (further_fault_data text) faults))

-- ---- the objects

-- the object of a fault
abbrev pub fault_data : List ℕ → List ℕ → Fault → List Note → Further → Data
fault_data file text fault notes further =
    object (member (codes "accepted") (boolean false)
    (member (codes "code") (string (code_name fault.code))
    (member (codes "end") (position_data text (end_of text fault.start))
    (member (codes "file") (string file)
    (member (codes "further") (further_faults_data text further.faults)
    (member (codes "more") (boolean further.more)
    (member (codes "notes") (notes_data text notes)
    (member (codes "remedy") (string (remedy fault.code))
    (member (codes "start") (position_data text fault.start)
    (member (codes "text") (string (code_text fault.code ++ detail_text (string_bytes fault.detail))) no_members))))))))))

-- the object of a program without a fault
abbrev pub accepted_data : List ℕ → List ℕ → List Note → List Warning → Data
accepted_data file text notes warnings =
    object (member (codes "accepted") (boolean true)
    (member (codes "file") (string file)
    (member (codes "notes") (notes_data text notes)
    (member (codes "warnings") (warnings_data text warnings) no_members))))

-- ---- the lines
-- the line of a fault
abbrev pub fault_json : List ℕ → List ℕ → Fault → List Note → Further → List ℕ
fault_json file text fault notes further = line (compact_text (fault_data file text fault notes further))

-- the line of a program without a fault
abbrev pub accepted_json : List ℕ → List ℕ → List Note → List Warning → List ℕ
accepted_json file text notes warnings = line (compact_text (accepted_data file text notes warnings))
