-- The position of a fault, the line that reports it, and refusals that are a given fault.
use Rattle.std.specs.Prelude.{◌≡◌, ℕ, ◌+◌, List, [], ◌∷◌, ◌++◌, take, min, length, count_by, ◌==◌, not, codes}
use Rattle.std.specs.Prelude.{string_bytes, Result, MatchResult}
use Rattle.std.specs.List.{suffix_len}
use Rattle.std.specs.Fmt.{decimal}
use Rattle.source.specs.declared.fault.Code.{Code}
use Rattle.source.specs.declared.fault.Fault as the_fault
use Rattle.source.specs.declared.fault.Refusal.{Refusal}
use Rattle.source.specs.declared.fault.Refusal.TheVariants.{Fault, NoMemory}
use Rattle.source.specs.Codes.{code_name, code_text}

-- the line of the byte at this index: 1 plus the number of line feeds before it
abbrev pub line_of : List ℕ → ℕ → ℕ
line_of text at = 1 + count_by (λ byte. byte == 10) (take at text)

-- the column of the byte at this index: 1 plus the number of bytes since the last line feed
abbrev pub column_of : List ℕ → ℕ → ℕ
column_of text at = 1 + suffix_len (λ byte. not (byte == 10)) (take at text)

-- what follows the code's message: the classes of a cycle, if it has any
abbrev pub detail_text : List ℕ → List ℕ
detail_text [] = []
detail_text (byte ∷ bytes) = codes ": " ++ (byte ∷ bytes)

-- FILE:LINE:COL: CODE TEXT
unfoldable pub placed_text : List ℕ → ℕ → ℕ → List ℕ → List ℕ → List ℕ
placed_text file line column name text =
    file ++ codes ":" ++ decimal line ++ codes ":" ++ decimal column ++ codes ": " ++ name ++ codes " " ++ text

-- FILE:LINE:COL: CODE TEXT for the byte at an index; an index past the text's end means its end
abbrev pub place_text : List ℕ → List ℕ → ℕ → List ℕ → List ℕ → List ℕ
place_text file text start name words =
    let at = min start (length text) in placed_text file (line_of text at) (column_of text at) name words

-- the line that reports a fault
abbrev pub fault_text : List ℕ → List ℕ → the_fault.Fault → List ℕ
fault_text file text fault =
    place_text file text fault.start (code_name fault.code) (code_text fault.code) ++ detail_text (string_bytes fault.detail)

-- a code as it is displayed, and a fault as it is displayed without its text
abbrev pub shown_code : Code → List ℕ
shown_code code = code_name code ++ codes " " ++ code_text code

abbrev pub shown_fault : the_fault.Fault → List ℕ
shown_fault fault = shown_code fault.code ++ codes " at byte " ++ decimal fault.start

-- the fault of this code at this byte, with no detail
abbrev pub IsBare : Code → ℕ → the_fault.Fault → Type 0
IsBare code start fault = (fault.code ≡ code) × (fault.start ≡ start) × (string_bytes fault.detail ≡ [])

-- the refusal is this fault, without detail, or the failure of an allocation
abbrev pub IsFaultAt : Code → ℕ → Refusal → Type 0
IsFaultAt code start (Fault fault) = IsBare code start fault
IsFaultAt code start NoMemory = Unit {0}

-- a success has this view, and the only error is the failure of an allocation
abbrev pub IsGiven : {X Y : Type 0} → (X → Y) → Y → Result X Refusal → Type 0
IsGiven view y r = MatchResult r (λ x. view x ≡ y) (λ e. e ≡ NoMemory)
