-- The line that reports the fault of a history file.
use Rattle.std.specs.Prelude.{ℕ, List, ◌++◌, codes}
use Rattle.std.specs.Fmt.{decimal}
use Rattle.input_files.specs.declared.history_refusal.HistoryCode.{HistoryCode}
use Rattle.input_files.specs.declared.history_refusal.HistoryCode.TheVariants.{BadHeader, BadLine, MissingEnd, LongLine}
use Rattle.input_files.specs.declared.history_refusal.HistoryFault.{HistoryFault}

-- the printed name of a code
abbrev pub code_name : HistoryCode → List ℕ
code_name BadHeader = codes "H1"
code_name BadLine = codes "H2"
code_name MissingEnd = codes "H3"
code_name LongLine = codes "H4"

-- the message of a code
abbrev pub code_text : HistoryCode → List ℕ
code_text BadHeader = codes "bad header"
code_text BadLine = codes "bad line"
code_text MissingEnd = codes "missing end"
code_text LongLine = codes "line too long"

-- FILE:LINE: CODE TEXT
abbrev pub history_fault_text : List ℕ → HistoryFault → List ℕ
history_fault_text file fault =
    file ++ codes ":" ++ decimal fault.line ++ codes ": " ++ code_name fault.code ++ codes " " ++ code_text fault.code
