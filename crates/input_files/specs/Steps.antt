-- What a steps file says.
use Rattle.std.specs.Prelude.{◌≡◌, ℕ, ◌+◌, ◌*◌, ◌-◌, Bool, ◌==◌, ◌&&◌, ◌||◌, not, nat_le, nat_lt, if◌then◌else◌, List}
use Rattle.std.specs.Prelude.{[], ◌∷◌, ◌++◌, length, take, drop, ⊤, Option, Some, None, Result, Ok, Err, codes, string_bytes}
use Rattle.std.specs.List.{slice_split, list_all, fold, position_or_len}
use Rattle.std.specs.Str.{bytes_eq}
use Rattle.std.specs.Global.{Vec}
use Rattle.core_lang.specs.declared.typed.Thread.{Thread}
use Rattle.source.specs.Faults.{place_text}
use Rattle.source.specs.Texts.{is_name_byte}
use Rattle.input_files.specs.declared.item.Until.{Until}
use Rattle.input_files.specs.declared.item.Until.TheVariants.{Count, Stop, CallEnd}
use Rattle.input_files.specs.declared.item.Item.{Item}
use Rattle.input_files.specs.declared.steps_refusal.StepsCode.{StepsCode}
use Rattle.input_files.specs.declared.steps_refusal.StepsCode.TheVariants.{BadItem, NoSuchThread, TooManySteps}
use Rattle.input_files.specs.declared.steps_refusal.StepsFault.{StepsFault}
use Rattle.input_files.specs.declared.steps_refusal.StepsRefusal.{StepsRefusal}
use Rattle.input_files.specs.declared.steps_refusal.StepsRefusal.TheVariants.{Fault, NoMemory}
pub use Rattle.source.specs.Limits.{STEP_LIMIT}

-- ---- how an item is written

-- space, tab, carriage return, line feed
abbrev pub is_white : ℕ → Bool
is_white byte = (byte == 32) || ((byte == 9) || ((byte == 13) || (byte == 10)))

-- an ASCII digit
abbrev pub is_digit : ℕ → Bool
is_digit byte = nat_le 48 byte && nat_le byte 57

-- one or more digits
abbrev pub are_digits : List ℕ → Bool
are_digits bytes = not (length bytes == 0) && list_all is_digit bytes

-- the number that decimal digits write
abbrev pub value_of : List ℕ → ℕ
value_of bytes = fold (λ value byte. value * 10 + (byte - 48)) 0 bytes

-- the number of letters, digits and `_` that come first: they name the thread
abbrev pub thread_len : List ℕ → ℕ
thread_len bytes = position_or_len (λ byte. not (is_name_byte byte)) bytes

-- how far an item goes, by what follows its thread: nothing, `*` and digits, `!`, or `+`
abbrev pub until_of : List ℕ → Option Until
until_of [] = Some (Count 1)
until_of (sign ∷ rest) =
    if (sign == 42) && are_digits rest then Some (Count (value_of rest))
    else if (sign == 33) && (length rest == 0) then Some Stop
    else if (sign == 43) && (length rest == 0) then Some CallEnd
    else None

-- how far a whole item goes; it has to name a thread
abbrev pub until_in : List ℕ → Option Until
until_in bytes = if thread_len bytes == 0 then None else until_of (drop (thread_len bytes) bytes)

-- ---- what it means

-- the thread has this name
abbrev pub is_named : List ℕ → Thread → Bool
is_named name thread = bytes_eq (string_bytes thread.name) name

-- the number of the thread that the bytes name, by number or by name; at least the number of threads if they name none
abbrev pub number_of : List Thread → List ℕ → ℕ
number_of threads bytes = if are_digits bytes then value_of bytes else position_or_len (is_named bytes) threads

-- the number of steps that an item counts; 0 if only a run shows how many they are
abbrev pub counted : Until → ℕ
counted (Count count) = count
counted Stop = 0
counted CallEnd = 0

-- the fault of a thread that does not exist: by number S2, by name S1
abbrev pub no_thread : List ℕ → StepsCode
no_thread word = if are_digits word then NoSuchThread else BadItem

-- the item at `start` for the thread `word`, after items that count `before` steps, or the code of its fault
abbrev pub item_by : List Thread → ℕ → ℕ → List ℕ → Option Until → Result Item StepsCode
item_by threads start before word None = Err BadItem
item_by threads start before word (Some until) =
    if nat_le (length threads) (number_of threads word) then Err (no_thread word)
    else if nat_lt STEP_LIMIT (before + counted until) then Err TooManySteps
    else Ok (record { thread = number_of threads word; until = until; start = start })

-- the item in these bytes, or the code of its fault
abbrev pub item_of : List Thread → ℕ → ℕ → List ℕ → Result Item StepsCode
item_of threads start before bytes =
    item_by threads start before (take (thread_len bytes) bytes) (until_in bytes)

-- ---- a file

-- the items of a file with these before them, or its fault
abbrev pub in_front : {T : Type 0} → List T → Result (List T) StepsFault → Result (List T) StepsFault
in_front some (Ok more) = Ok (some ++ more)
in_front some (Err fault) = Err fault

-- an item and what follows it, or the item's fault at its start
abbrev pub and_then : Result Item StepsCode → ℕ → (Item → Result (List Item) StepsFault) → Result (List Item) StepsFault
and_then (Ok item) start rest = in_front (item ∷ []) (rest item)
and_then (Err code) start rest = Err (record { code = code; start = start })

-- the items among the pieces between white bytes, from the byte `start` on, after items that count `before` steps; an
-- empty piece is not an item
abbrev pub items_from : List Thread → ℕ → ℕ → List (List ℕ) → Result (List Item) StepsFault
items_from threads start before [] = Ok []
items_from threads start before ([] ∷ pieces) = items_from threads (start + 1) before pieces
items_from threads start before ((byte ∷ bytes) ∷ pieces) =
    and_then (item_of threads start before (byte ∷ bytes)) start
    (λ (item : Item).
    items_from threads (start + (length (byte ∷ bytes) + 1)) (before + counted item.until) pieces)

-- the items of a file, or the fault of the first faulty one, for a program with these threads
abbrev pub items_in : List Thread → List ℕ → Result (List Item) StepsFault
items_in threads text = items_from threads 0 0 (slice_split is_white text)

-- the result is these items or this fault, or an allocation failed
abbrev pub Answers : {T : Type 0} → Result (Vec T) StepsRefusal → Result (List T) StepsFault → Type 0
Answers (Ok found) said = said ≡ Ok found.items
Answers (Err (Fault fault)) said = said ≡ Err fault
Answers (Err NoMemory) said = ⊤

-- `P` holds of the fault, if the result is one
abbrev pub IfFault : {T : Type 0} → Result T StepsRefusal → (StepsFault → Type 0) → Type 0
IfFault (Ok x) P = ⊤
IfFault (Err (Fault fault)) P = P fault
IfFault (Err NoMemory) P = ⊤

-- ---- its faults

-- the printed name of a code
abbrev pub code_name : StepsCode → List ℕ
code_name BadItem = codes "S1"
code_name NoSuchThread = codes "S2"
code_name TooManySteps = codes "S3"

-- the message of a code
abbrev pub code_text : StepsCode → List ℕ
code_text BadItem = codes "bad item"
code_text NoSuchThread = codes "no such thread"
code_text TooManySteps = codes "too many steps"

-- FILE:LINE:COL: CODE TEXT; a fault past the text's end is reported at its end
abbrev pub steps_fault_text : List ℕ → List ℕ → StepsFault → List ℕ
steps_fault_text file text fault = place_text file text fault.start (code_name fault.code) (code_text fault.code)
