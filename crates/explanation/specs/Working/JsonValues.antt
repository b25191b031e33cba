-- The JSON of an explanation, as values of the code have it.
use Rattle.std.specs.Prelude.{ℕ, List, ◌++◌, false, map, codes, string_bytes}
use Rattle.explanation.specs.declared.explanation.Acceptance.{Acceptance}
use Rattle.explanation.specs.declared.explanation.Explanation.{Explanation}
use Rattle.explanation.specs.Further.{further_of}
use Rattle.explanation.specs.Notes.{note_of}
use Rattle.explanation.specs.Remedies.{remedy}
use Rattle.explanation.specs.Warnings.{warning_of}
use Rattle.serde_json.specs.Data.{Data, Members, boolean, string, member, no_members}
use Rattle.source.specs.declared.fault.Fault.{Fault}
use Rattle.source.specs.Codes.{code_name, code_text}
use Rattle.source.specs.Faults.{detail_text}
use Rattle.explanation.specs.Json.{accepted_data, accepted_json, fault_data, fault_json}

abbrev pub fault_words_of : Fault → List ℕ
fault_words_of fault = code_text fault.code ++ detail_text (string_bytes fault.detail)

-- the members of a fault's object that are not about a place
abbrev pub fault_members_of : List ℕ → Fault → Members
fault_members_of file fault =
    member (codes "accepted") (boolean false)
    (member (codes "code") (string (code_name fault.code))
    (member (codes "file") (string file)
    (member (codes "remedy") (string (remedy fault.code))
    (member (codes "text") (string (fault_words_of fault)) no_members))))

abbrev pub fault_data_of : Explanation → Data
fault_data_of x = fault_data x.file.now x.text.now x.fault.now (map note_of x.notes.now) (further_of x.further.now)

abbrev pub fault_json_of : Explanation → List ℕ
fault_json_of x = fault_json x.file.now x.text.now x.fault.now (map note_of x.notes.now) (further_of x.further.now)

abbrev pub accepted_data_of : Acceptance → Data
accepted_data_of x = accepted_data x.file.now x.text.now (map note_of x.notes.now) (map warning_of x.warnings.now)

abbrev pub accepted_json_of : Acceptance → List ℕ
accepted_json_of x = accepted_json x.file.now x.text.now (map note_of x.notes.now) (map warning_of x.warnings.now)
